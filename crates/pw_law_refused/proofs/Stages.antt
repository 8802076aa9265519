-- The steps of the placed run, one before another, and the stage at which it has stopped.
use Rattle.std.proofs.Common.{◌≡◌, ℕ, zero, suc, List, refl, sym, ap, subst, ◌∙◌}
use Rattle.pw_alloc.specs.declared.located.Located.{Located}
use Rattle.pw_run.specs.Runs.{End, StackFull}
use Rattle.pw_run_languages.specs.Traces.{Notes}
use Rattle.pw_run_languages.specs.Programs.{Program}
use Rattle.pw_run_languages.specs.PlacedRun.{PlacedProgram, Machine, Step, On, Stopped, Astray, and_then, placed_run, staged, start, step, steps}
use Rattle.pw_run_languages.specs.Direction.{with_functions}
use Rattle.pw_law_room.specs.Room.{HadRoom}

pub steps_last : (q : PlacedProgram) (n : ℕ) (s : Step) → steps q (suc n) s ≡ and_then (steps q n s) (step q)
unfolding steps
steps_last q zero s = refl
steps_last q (suc n) s = steps_last q n (and_then s (step q))

-- the state before one that was come to
pub record ComesFrom (q : PlacedProgram) (s : Step) (m : Machine) : Type 0 where
  pub before : Machine
  pub is : s ≡ On before
  pub goes : step q before ≡ On m

pub comes_from : (q : PlacedProgram) (s : Step) (m : Machine) → and_then s (step q) ≡ On m → ComesFrom q s m
comes_from q (On before) m e = record { before = before; is = refl; goes = e }
comes_from q (Stopped end before) m e = absurd cc
comes_from q Astray m e = absurd cc

-- the state from which a step stopped the run
pub record StopsFrom (q : PlacedProgram) (s : Step) (end : End) (u : Machine) : Type 0 where
  pub count : ℕ
  pub last : Machine
  pub comes : steps q count s ≡ On last
  pub stops : step q last ≡ Stopped end u

before_stop : (q : PlacedProgram) (s : Step) (end : End) (u : Machine) (n : ℕ) → (steps q n s ≡ Stopped end u → StopsFrom q s end u) → (t : Step) → steps q n s ≡ t → and_then t (step q) ≡ Stopped end u → StopsFrom q s end u
before_stop q s end u n earlier (On m) at e = record { count = n; last = m; comes = at; stops = e }
before_stop q s end u n earlier (Stopped other m) at e = earlier (at ∙ e)
before_stop q s end u n earlier Astray at e = absurd cc

pub stops_from : (q : PlacedProgram) (s : Step) (end : End) (u : Machine) → (s ≡ Stopped end u → ⊥) → (n : ℕ) → steps q n s ≡ Stopped end u → StopsFrom q s end u
unfolding steps
stops_from q s end u never zero e = absurd (never e)
stops_from q s end u never (suc n) e = before_stop q s end u n (stops_from q s end u never n) (steps q n s) refl (sym (steps_last q n s) ∙ e)

-- the step behind a state that was come to
pub next_is : (q : PlacedProgram) (n : ℕ) (s : Step) (m : Machine) (t : Step) → steps q n s ≡ On m → step q m ≡ t → steps q (suc n) s ≡ t
next_is q n s m t at is = steps_last q n s ∙ ap (λ (x : Step). and_then x (step q)) at ∙ is

pub stopped_room : (p : Program) (functions : List Located) (input : List ℕ) (n : ℕ) (m u : Machine) → steps (with_functions p functions) n (start (with_functions p functions) input) ≡ On m
    → step (with_functions p functions) m ≡ Stopped StackFull u → Notes (HadRoom p) (placed_run (with_functions p functions) input (suc n)) → HadRoom p u.trace
unfolding placed_run
stopped_room p functions input n m u at stops notes =
    subst (λ (s : Step). Notes (HadRoom p) (staged s)) (next_is (with_functions p functions) n (start (with_functions p functions) input) m (Stopped StackFull u) at stops) notes
