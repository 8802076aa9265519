-- The run of lines at a call that the placed run is refused.
use Rattle.std.proofs.Common.{◌≡◌, ℕ, zero, suc, List, [], map, refl, sym, ap, subst, ◌∙◌}
use Rattle.std.specs.List.{AllByRecursion}
use Rattle.pw_db.specs.declared.database.Directives.{Directives}
use Rattle.pw_alloc.specs.declared.located.Located.{Located}
use Rattle.pw_run_languages.specs.Programs.{Program}
use Rattle.pw_run_languages.specs.Addresses.{Addresses}
use Rattle.pw_run_languages.specs.LineRun as run
use Rattle.pw_run_languages.specs.LineRun.{LineProgram}
use Rattle.pw_run_languages.specs.PlacedRun as placed
use Rattle.pw_run_languages.specs.PlacedRun.{PlacedProgram, value_in}
use Rattle.pw_run_languages.specs.Direction.{with_functions}
use Rattle.pw_run_languages.specs.SelectionLaws.{line_program, with_lines}
use Rattle.pw_law_select_known.specs.Laws.{IsOfProgram, PointersAreKnown}
use Rattle.pw_law_select_states.specs.Passes.{further}
use Rattle.pw_law_select_frames.specs.Refusing.{CallsAreNotedAlike}
use Rattle.pw_law_select_start.proofs.Starting.{lines_named}
use Rattle.pw_law_selection.specs.Following.{IsGiven, AreAlike, Comes, Follow, goes, ends, strays, StartsAreFollowed, StepsAreFollowed}
use Rattle.pw_law_selection.proofs.Coming.{joined}
use Rattle.pw_law_selection.proofs.Entering.{CallingLaws, AtCall, turn, one, may_call}
use Rattle.pw_law_refused.specs.Refused.{IsRefused, NotesRefused, behind}
use Rattle.pw_law_refused.proofs.Stages.{steps_last}

lines_last : (q : LineProgram) (w : Addresses) (scratch : ℕ → (ℕ → ℕ) → ℕ → ℕ) (n : ℕ) (s : run.Step) → run.steps q w scratch (suc n) s ≡ run.and_then (run.steps q w scratch n s) (run.step q w scratch)
unfolding run.steps
lines_last q w scratch zero s = refl
lines_last q w scratch (suc n) s = lines_last q w scratch n (run.and_then s (run.step q w scratch))

module _ (p : Program) (d : List (List ℕ × Directives)) (functions : List Located) (w : Addresses) (scratch : ℕ → (ℕ → ℕ) → ℕ → ℕ) where
  abbrev lines : LineProgram
  lines = line_program p functions

  abbrev full : PlacedProgram
  full = with_functions p functions

  -- ---- each state is followed

  follows_on : (s : run.Step) (l : run.Machine) (t : placed.Step) → Comes p functions w scratch s (run.On l) → Follow p d functions w scratch (run.On l) t → Follow p d functions w scratch s t
  follows_on s l (placed.On m) first (goes _ o two alike) = goes m o (joined p functions w scratch s (run.On l) (run.On o) first two) alike
  follows_on s l (placed.Stopped end m) first (ends _ _ o two alike) = ends end m o (joined p functions w scratch s (run.On l) (run.Stopped end o) first two) alike
  follows_on s l placed.Astray first strays = strays

  module _ (input : List ℕ) (given : IsGiven p d functions w input) (known : PointersAreKnown) (starts : StartsAreFollowed) (each : StepsAreFollowed) where
    abbrev begin : run.Step
    begin = run.start lines w input

    abbrev at : ℕ → placed.Step
    at n = placed.steps full n (placed.start full input)

    next_follows : (n : ℕ) (s : placed.Step) → at n ≡ s → Follow p d functions w scratch begin s → Follow p d functions w scratch begin (placed.and_then s (placed.step full))
    next_follows n (placed.On m) e (goes _ l comes alike) =
        follows_on begin l (placed.step full m) comes (each p d functions w scratch input n m l given e (comes.count, comes.steps) (known p d functions input given.program given.serve n m e) alike)
    next_follows n (placed.Stopped end m) e (ends _ _ l comes alike) = ends end m l comes alike
    next_follows n placed.Astray e strays = strays

    first_follows : Follow p d functions w scratch begin (at 0)
    unfolding placed.steps
    first_follows = starts p d functions w scratch input given

    all_follow : (n : ℕ) → Follow p d functions w scratch begin (at n)
    all_follow zero = first_follows
    all_follow (suc n) = subst (Follow p d functions w scratch begin) (sym (steps_last full n (placed.start full input))) (next_follows n (at n) refl (all_follow n))

    -- a state of the lines that stands for one of the placed run
    record IsFollowed (m : placed.Machine) : Type 0 where
      state : run.Machine
      comes : Comes p functions w scratch begin (run.On state)
      alike : AreAlike p d w m state

    followed : (m : placed.Machine) → Follow p d functions w scratch begin (placed.On m) → IsFollowed m
    followed m (goes _ l comes alike) = record { state = l; comes = comes; alike = alike }

    -- ---- the call

    pub notes_refused : CallingLaws → CallsAreNotedAlike → (n : ℕ) (m u : placed.Machine) → at n ≡ placed.On m → IsOfProgram functions m.frame → AllByRecursion (IsOfProgram functions) m.callers
        → (r : IsRefused p functions m u) → NotesRefused p functions w scratch input (behind r.ops m) r.function.body.name
    notes_refused laws alike_calls n m u is here callers r =
        let k = followed m (subst (Follow p d functions w scratch begin) is (all_follow n)) in
        let l = k.state in
        let call : AtCall p d functions w input m l r.op r.ops =
        record { given = given; index = n; steps = is; known = known p d functions input given.program given.serve n m is; here = here; callers = callers; alike = k.alike; next = r.next; calls = r.calls } in
        let reaches = turn laws p d functions w scratch input m l r.op r.ops call r.result r.name r.from r.enters in
        let first = one laws p d functions w scratch input m l r.op r.ops call r.result r.name r.from r.enters in
        let may = may_call laws p d functions w scratch input m l r.op r.ops call r.result r.name r.from r.enters in
        let there = further reaches.items reaches.core reaches.passes.more [] l in
        let came = joined p functions w scratch begin (run.On l) (run.On there) k.comes first in
        let entered = run.enters lines w (with_lines r.function) reaches.called in
        let step : run.step lines w scratch there ≡ run.On entered = reaches.calls.defined (with_lines r.function) r.of_module (lines_named functions r.name r.function r.found) in
        record {
          count = suc came.count;
          state = entered;
          comes = lines_last lines w scratch came.count begin ∙ ap (λ (s : run.Step). run.and_then s (run.step lines w scratch)) came.steps ∙ step;
          alike = alike_calls p w functions k.alike.site r.function.body.name (map (value_in m.frame m.registers) r.from) (behind r.ops m) reaches.called may;
        }
