-- A run that is over stays as it is, so it has one end. So a run does not refine another that ends otherwise.
use Rattle.std.specs.Prelude.{ℕ, zero, suc, ◌≡◌, ◌≢◌, ◌+◌, ◌-◌, Bool, true, false, List, [], map}
use Rattle.std.proofs.Common.{arith, subst, sym, ap, refl, ◌∙◌, inl, inr}
use Rattle.std.proofs.lemmas.Bool.{cases_lt}
use Rattle.pw_run.specs.Runs.{End, Ended, StackFull, Stage, Going, Over, Wrong, Met, Refines}
use Rattle.pw_db.specs.declared.database.Directives.{Directives}
use Rattle.pw_run_languages.specs.Traces.{Event, shown_by, calls_alone, calls_of}
use Rattle.pw_run_languages.specs.Programs.{Program}
use Rattle.pw_run_languages.specs.FlowRun as flow
use Rattle.pw_run_languages.specs.FlowRun.{flow_run}
use Rattle.pw_run_languages.specs.PlacedRun as placed
use Rattle.pw_run_languages.specs.PlacedRun.{PlacedProgram, placed_run}
use Rattle.pw_run_languages.specs.Direction.{web_run, directed_functions, unplaced, with_functions}
use Rattle.pw_run_languages.specs.Addresses.{Addresses}
use Rattle.pw_run_languages.specs.LineRun as lines
use Rattle.pw_run_languages.specs.LineRun.{LineProgram, line_run}

-- ---- ends

abbrev pub is_over : {M : Type 0} → Stage M → Bool
is_over (Going v) = false
is_over (Over end v) = true
is_over Wrong = false

abbrev status_of : End → ℕ
status_of (Ended status) = status
status_of StackFull = 256

-- how a run ends, and its output
abbrev pub ends : {M : Type 0} → Stage M → ℕ × List ℕ
ends (Going v) = (257, [])
ends (Over end v) = (status_of end, v.output)
ends Wrong = (257, [])

-- so many steps behind a number of steps
abbrev pub behind : ℕ → ℕ → ℕ
behind zero k = k
behind (suc n) k = suc (behind n k)

behind_is : (n k : ℕ) → behind n k ≡ n + k
behind_is zero k = omega arith
behind_is (suc n) k = let h = behind_is n k in omega (arith, h)

-- a run that is over stays as it is
abbrev pub Rests : {M : Type 0} → (ℕ → Stage M) → Type 0
Rests run = (n k : ℕ) → is_over (run n) ≡ true → run (behind n k) ≡ run n

rested : {M : Type 0} (run : ℕ → Stage M) → Rests run → (n m k : ℕ) → behind n k ≡ m → is_over (run n) ≡ true → run m ≡ run n
rested run rests n m k e over = subst (λ (j : ℕ). run j ≡ run n) e (rests n k over)

pub one_end : {M : Type 0} (run : ℕ → Stage M) → Rests run → (n m : ℕ) → is_over (run n) ≡ true → is_over (run m) ≡ true → run n ≡ run m
one_end run rests n m a b = elim (cases_lt n m) [
  | inl lt ↦ let is = behind_is n (m - n) in sym (rested run rests n m (m - n) (omega (arith, is, lt)) a)
  | inr le ↦ let is = behind_is m (n - m) in rested run rests m n (n - m) (omega (arith, is, le)) b
]

-- ---- refinement

-- a run ends as a stage does
pub record EndsAlike {M N : Type 0} (a : Stage M) (b : ℕ → Stage N) : Type 0 where
  pub at : ℕ
  pub over : is_over (b at) ≡ true
  pub same : ends a ≡ ends (b at)

met_end : {M N : Type 0} (Alike : M → N → Type 0) (a : Stage M) (b : ℕ → Stage N) → is_over a ≡ true → Met Alike a b → EndsAlike a b
met_end Alike (Going v) b e m = absurd cc
met_end Alike (Over end v) b e m = record {
  at = m.at;
  over = ap is_over m.is;
  same = ap (λ (o : List ℕ). (status_of end, o)) m.same.output ∙ sym (ap ends m.is);
}
met_end Alike Wrong b e m = absurd cc

-- two runs that end, and not alike
pub refuses : {M N : Type 0} (Alike : M → N → Type 0) (a : ℕ → Stage M) (b : ℕ → Stage N) → Rests b → (n m : ℕ) → is_over (a n) ≡ true → is_over (b m) ≡ true
    → ends (a n) ≢ ends (b m) → Refines Alike a b → ⊥
refuses Alike a b rests n m over also differ r =
    let e = met_end Alike (a n) b over (r n) in differ (e.same ∙ ap ends (one_end b rests e.at m e.over also))

-- ---- runs of flow graphs

flow_stays : (p : Program) (k : ℕ) (end : End) (m : flow.Machine) → flow.steps p k (flow.Stopped end m) ≡ flow.Stopped end m
unfolding flow.steps
flow_stays p zero end m = refl
flow_stays p (suc k) end m = flow_stays p k end m

flow_more : (p : Program) (n k : ℕ) (s : flow.Step) → flow.steps p (behind n k) s ≡ flow.steps p k (flow.steps p n s)
unfolding flow.steps
flow_more p zero k s = refl
flow_more p (suc n) k s = flow_more p n k (flow.goes_on p s)

flow_over : (p : Program) (k : ℕ) (s : flow.Step) → is_over (flow.staged s) ≡ true → flow.staged (flow.steps p k s) ≡ flow.staged s
flow_over p k (flow.On m) e = absurd cc
flow_over p k (flow.Stopped end m) e = ap flow.staged (flow_stays p k end m)
flow_over p k flow.Astray e = absurd cc

pub flow_rests : (p : Program) (input : List ℕ) → Rests (flow_run p input)
unfolding flow_run
flow_rests p input n k e = ap flow.staged (flow_more p n k (flow.start p input)) ∙ flow_over p k (flow.steps p n (flow.start p input)) e

-- ---- runs with places

placed_stays : (p : PlacedProgram) (k : ℕ) (end : End) (m : placed.Machine) → placed.steps p k (placed.Stopped end m) ≡ placed.Stopped end m
unfolding placed.steps
placed_stays p zero end m = refl
placed_stays p (suc k) end m = placed_stays p k end m

placed_more : (p : PlacedProgram) (n k : ℕ) (s : placed.Step) → placed.steps p (behind n k) s ≡ placed.steps p k (placed.steps p n s)
unfolding placed.steps
placed_more p zero k s = refl
placed_more p (suc n) k s = placed_more p n k (placed.and_then s (placed.step p))

placed_over : (p : PlacedProgram) (k : ℕ) (s : placed.Step) → is_over (placed.staged s) ≡ true → placed.staged (placed.steps p k s) ≡ placed.staged s
placed_over p k (placed.On m) e = absurd cc
placed_over p k (placed.Stopped end m) e = ap placed.staged (placed_stays p k end m)
placed_over p k placed.Astray e = absurd cc

pub placed_rests : (p : PlacedProgram) (input : List ℕ) → Rests (placed_run p input)
unfolding placed_run
placed_rests p input n k e = ap placed.staged (placed_more p n k (placed.start p input)) ∙ placed_over p k (placed.steps p n (placed.start p input)) e

shown_over : {B V : Type 0} (s : Stage (Event B V)) → is_over (shown_by calls_alone s) ≡ is_over s
shown_over (Going v) = refl
shown_over (Over end v) = refl
shown_over Wrong = refl

-- what is shown of a run rests where the run does
pub shown_rests : {B V : Type 0} (run : ℕ → Stage (Event B V)) → Rests run → Rests (calls_of run)
shown_rests run rests n k e = ap (shown_by calls_alone) (rests n k (sym (shown_over (run n)) ∙ e))

pub web_rests : (p : Program) (d : List (List ℕ × Directives)) (input : List ℕ) → Rests (web_run p d input)
unfolding web_run
web_rests p d input = placed_rests (with_functions p (map unplaced (directed_functions p d))) input

-- ---- runs of lines

lines_stay : (p : LineProgram) (w : Addresses) (scratch : ℕ → (ℕ → ℕ) → ℕ → ℕ) (k : ℕ) (end : End) (m : lines.Machine) → lines.steps p w scratch k (lines.Stopped end m) ≡ lines.Stopped end m
unfolding lines.steps
lines_stay p w scratch zero end m = refl
lines_stay p w scratch (suc k) end m = lines_stay p w scratch k end m

lines_more : (p : LineProgram) (w : Addresses) (scratch : ℕ → (ℕ → ℕ) → ℕ → ℕ) (n k : ℕ) (s : lines.Step) → lines.steps p w scratch (behind n k) s ≡ lines.steps p w scratch k (lines.steps p w scratch n s)
unfolding lines.steps
lines_more p w scratch zero k s = refl
lines_more p w scratch (suc n) k s = lines_more p w scratch n k (lines.and_then s (lines.step p w scratch))

lines_over : (p : LineProgram) (w : Addresses) (scratch : ℕ → (ℕ → ℕ) → ℕ → ℕ) (k : ℕ) (s : lines.Step) → is_over (lines.staged s) ≡ true → lines.staged (lines.steps p w scratch k s) ≡ lines.staged s
lines_over p w scratch k (lines.On m) e = absurd cc
lines_over p w scratch k (lines.Stopped end m) e = ap lines.staged (lines_stay p w scratch k end m)
lines_over p w scratch k lines.Astray e = absurd cc

pub line_rests : (p : LineProgram) (w : Addresses) (scratch : ℕ → (ℕ → ℕ) → ℕ → ℕ) (input : List ℕ) → Rests (line_run p w scratch input)
unfolding line_run
line_rests p w scratch input n k e =
    ap lines.staged (lines_more p w scratch n k (lines.start p w input)) ∙ lines_over p w scratch k (lines.steps p w scratch n (lines.start p w input)) e
