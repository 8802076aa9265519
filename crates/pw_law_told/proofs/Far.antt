-- How far the runs between source and machine come, and that return addresses stand there.
use Rattle.std.specs.Prelude.{ℕ, suc, ◌≤◌, List}
use Rattle.std.proofs.Common.{arith, subst, sym}
use Rattle.pw_db.specs.declared.database.Directives.{Directives}
use Rattle.pw_alloc.specs.declared.located.Located.{Located}
use Rattle.pw_cmean.specs.Worlds as source
use Rattle.pw_cmean.specs.Acts.{Undefined, StackFull, Exit, Bound, Wrong as WrongEnd, Outcome, Gives, Ends}
use Rattle.pw_cmean.specs.SourceRun.{run_main, seen, source_run, start_state}
use Rattle.pw_run.specs.Runs.{Going, Met, Over, Refines, Same, Stage, Wrong}
use Rattle.pw_run_agreement.specs.Agreement.{IsMeaningful}
use Rattle.pw_run_languages.specs.Traces.{EventAlike, calls_alone, calls_of, shown_by}
use Rattle.pw_run_languages.specs.Meeting.{MetIn}
use Rattle.pw_run_languages.specs.Programs.{Program}
use Rattle.pw_run_languages.specs.FlowRun.{flow_run}
use Rattle.pw_run_languages.specs.PlacedRun.{placed_run}
use Rattle.pw_run_languages.specs.Direction.{MomentAlike, web_run, with_functions}
use Rattle.pw_run_languages.specs.Addresses.{Addresses}
use Rattle.pw_run_languages.specs.LineRun.{Step, On, Stopped, Astray, line_run, start, steps}
use Rattle.pw_run_languages.specs.LineRun as lines
use Rattle.pw_run_languages.specs.Links.{HaveLinks}
use Rattle.pw_run_languages.specs.PlacementLaws.{DirectionKeeps, PlacesKeep}
use Rattle.pw_run_languages.specs.SelectionLaws.{PlacementKeeps, SelectionKeeps, placed_program}
use Rattle.pw_law_source.specs.Source.{end_of, source_runs, source_stages, staged}
use Rattle.pw_law_source.specs.Lowering.{MomentKept}
use Rattle.pw_law_entered.specs.Entered.{HasPassed}

-- the run has counted so many events, or is over
abbrev pub IsFar : {M : Type 0} → ℕ → Stage M → Type 0
IsFar n (Going v) = n ≤ v.events
IsFar n (Over end v) = Unit {0}
IsFar n Wrong = ⊥

far_met : {M N : Type 0} (F : M → N → Type 0) (n : ℕ) (s : Stage M) (b : ℕ → Stage N) → Met F s b → IsFar n s → (at : ℕ) × IsFar n (b at)
far_met F n (Going v) b m far =
    let more = m.counted in
    let there : n ≤ m.view.events = omega (arith, more, far) in
    (m.at, subst (λ s. IsFar n s) (sym m.is) there)
far_met F n (Over end v) b m far = (m.at, subst (λ s. IsFar n s) (sym m.is) tt)
far_met F n Wrong b m far = absurd far

far_shown : {M N : Type 0} (f : List M → List N) (n : ℕ) (s : Stage M) → IsFar n (shown_by f s) → IsFar n s
far_shown f n (Going v) h = h
far_shown f n (Over end v) h = tt
far_shown f n Wrong h = absurd h

-- a stage that is so far, at which something holds of the number of steps
pub record Reaches {M : Type 0} (n : ℕ) (P : ℕ → Type 0) (b : ℕ → Stage M) : Type 0 where
  pub at : ℕ
  pub far : IsFar n (b at)
  pub holds : P at

far_in : {M N : Type 0} (P : ℕ → Type 0) (n : ℕ) (s : Stage M) (b : ℕ → Stage N) → MetIn P s b → IsFar n s → Reaches n P b
far_in P n (Going v) b m far =
    let more = m.counted in
    let there : n ≤ m.view.events = omega (arith, more, far) in
    record { at = m.at; far = subst (λ s. IsFar n s) (sym m.is) there; holds = m.holds }
far_in P n (Over end v) b m far = record { at = m.at; far = subst (λ s. IsFar n s) (sym m.is) tt; holds = m.holds }
far_in P n Wrong b m far = absurd far

-- ---- the source

outcome_far : (n : ℕ) (o : Outcome (Unit {0})) → IsMeaningful (end_of (seen o).end) → IsFar n (staged n o)
outcome_far n (Gives done s) means = tt
outcome_far n (Ends (Exit status) s) means = tt
outcome_far n (Ends StackFull s) means = tt
outcome_far n (Ends Bound s) means = omega arith
outcome_far n (Ends (Undefined operation home token) s) means = absurd means
outcome_far n (Ends WrongEnd s) means = absurd means

pub source_far : (p : source.Program) (frame_of : List ℕ → ℕ) (stack : ℕ) (input : List ℕ) (n : ℕ) → IsMeaningful (source_runs p frame_of stack input n).end → IsFar n (source_stages p frame_of stack input n)
unfolding source_stages source_run
source_far p frame_of stack input n means = outcome_far n (run_main (record { program = p; frame_of = frame_of; stack = stack }) n (start_state p input)) means

-- ---- the lines

passed_by : (m : ℕ) (t : Step) → IsFar (suc m) (lines.staged t) → HasPassed m t
passed_by m (On t) far = omega (arith, far)
passed_by m (Stopped end t) far = tt
passed_by m Astray far = absurd far

pub record LinesPass (q : Program) (functions : List Located) (w : Addresses) (scratch : ℕ → (ℕ → ℕ) → ℕ → ℕ) (input : List ℕ) (m : ℕ) : Type 0 where
  pub at : ℕ
  pub passed : HasPassed m (steps (placed_program q functions) w scratch at (start (placed_program q functions) w input))
  pub links : HaveLinks (placed_program q functions) w scratch input at

-- from a stage of the source on
pub lines_pass : (p : source.Program) (q : Program) (d : List (List ℕ × Directives)) (functions : List Located) (w : Addresses) (scratch : ℕ → (ℕ → ℕ) → ℕ → ℕ) (frame_of : List ℕ → ℕ) (stack : ℕ) (input : List ℕ) (m : ℕ)
    → Refines (MomentKept q) (source_stages p frame_of stack input) (flow_run q input) → DirectionKeeps q d input → PlacesKeep q d functions input
    → SelectionKeeps q d functions w scratch input → PlacementKeeps q functions w scratch input → IsFar (suc m) (source_stages p frame_of stack input (suc m)) → LinesPass q functions w scratch input m
unfolding line_run
lines_pass p q d functions w scratch frame_of stack input m lowering direction places selection placement far =
    let n = suc m in
    let flows = far_met (MomentKept q) n (source_stages p frame_of stack input n) (flow_run q input) (lowering n) far in
    let shown = far_met (MomentAlike q) n (flow_run q input flows.0) (calls_of (web_run q d input)) (direction.runs flows.0) flows.1 in
    let webs : IsFar n (web_run q d input shown.0) = far_shown calls_alone n (web_run q d input shown.0) shown.1 in
    let placed = far_met (EventAlike Same Same) n (web_run q d input shown.0) (placed_run (with_functions q functions) input) (places.runs shown.0) webs in
    let s = placed_run (with_functions q functions) input placed.0 in
    let r = far_in (HaveLinks (placed_program q functions) w scratch input) n s (line_run (placed_program q functions) w scratch input) (placement.links s (selection.links placed.0)) placed.1 in
    record { at = r.at; passed = passed_by m (steps (placed_program q functions) w scratch r.at (start (placed_program q functions) w input)) r.far; links = r.holds }
