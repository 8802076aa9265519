-- The objects of the globals have their bytes at the calls of the program.
use Rattle.std.proofs.Common.{ℕ, List, [], ◌∷◌, ◌++◌, refl, subst}
use Rattle.std.specs.List.{AllByRecursion}
use Rattle.pw_value.specs.Objects.{Object as Thing}
use Rattle.pw_cmean.specs.Worlds as source
use Rattle.pw_cmean.specs.Acts.{Called, Moment, Undefined, StackFull, Exit, Bound, Outcome, Gives, Ends}
use Rattle.pw_cmean.specs.Acts as acts
use Rattle.pw_cmean.specs.Lasting.{state_behind}
use Rattle.pw_cmean.specs.SourceRun.{run_main, start_state}
use Rattle.pw_run.specs.Runs.{Stage, Going, Over, Wrong, Met, Refines}
use Rattle.pw_run_languages.specs.Traces.{Notes}
use Rattle.pw_run_languages.specs.Programs.{Program}
use Rattle.pw_run_languages.specs.LawfulPrograms.{IsProgram}
use Rattle.pw_run_languages.specs.FlowRun.{flow_run}
use Rattle.pw_law_source.specs.Source.{source_progress, staged_within}
use Rattle.pw_law_source.specs.Lowering.{MomentKept}
use Rattle.pw_law_layers.specs.Whole.{roomless}
use Rattle.pw_law_pause.specs.Moments.{noted_within}
use Rattle.pw_law_calls.specs.Calls.{HasNoted, IsSourceCall}
use Rattle.pw_law_told.specs.Told.{IsPause, world_of}
use Rattle.pw_law_bytes.specs.Stored.{HaveTheirBytes, HaveTheirBytesInC}

-- ---- a call among what was noted

noted_all : (P : List Moment → Type 0) (stage : Stage Moment) (log : List Moment) → Notes P stage → HasNoted stage log → P log
noted_all P (Going v) log all has = subst P has all
noted_all P (Over end v) log all has = subst P has all
noted_all P Wrong log all has = absurd has

call_among : (q : Program) (later before : List Moment) (f : List ℕ) (things : List Thing) → AllByRecursion (HaveTheirBytesInC q) (later ++ Called f things ∷ before) → HaveTheirBytes q things
call_among q [] before f things all = all.0
call_among q (m ∷ later) before f things all = call_among q later before f things all.1

have_bytes : (q : Program) (stage : Stage Moment) (log : List Moment) (k : ℕ) (f : List ℕ) (things : List Thing) → Notes (AllByRecursion (HaveTheirBytesInC q)) stage → HasNoted stage log → IsSourceCall log k f things
    → HaveTheirBytes q things
have_bytes q stage log k f things all has call =
    call_among q call.later call.before f things (subst (AllByRecursion (HaveTheirBytesInC q)) call.log_is (noted_all (AllByRecursion (HaveTheirBytesInC q)) stage log all has))

-- ---- the run where no function takes room

progress_by : (n : ℕ) (o : Outcome (Unit {0})) → HasNoted (staged_within n o) (state_behind o).moments
progress_by n (Gives done s) = refl
progress_by n (Ends (Exit status) s) = refl
progress_by n (Ends StackFull s) = refl
progress_by n (Ends Bound s) = refl
progress_by n (Ends (Undefined operation home token) s) = refl
progress_by n (Ends acts.Wrong s) = refl

progress : (p : source.Program) (input : List ℕ) (n : ℕ) → HasNoted (source_progress p (λ f. 0) 0 input n) (noted_within (world_of p (λ f. 0) 0) input n)
unfolding source_progress
progress p input n = progress_by n (run_main (world_of p (λ f. 0) 0) n (start_state p input))

abbrev HaveBytes : Type 0
HaveBytes =
    (q : Program) (frame_of : List ℕ → ℕ) (stack : ℕ) (input : List ℕ) (stage : Stage Moment) → IsProgram q
    → Met (MomentKept q) stage (flow_run (record q { frame_of = frame_of; stack = stack }) input) → Notes (AllByRecursion (HaveTheirBytesInC q)) stage

pub bytes_at_pause : HaveBytes → (p : source.Program) (q : Program) (input : List ℕ) (k : ℕ) (f : List ℕ) (things : List Thing) → IsProgram q
    → Refines (MomentKept q) (source_progress p (λ f. 0) 0 input) (flow_run (roomless q) input) → IsPause p input k f things → HaveTheirBytes q things
bytes_at_pause law p q input k f things program runs pause =
    let stage = source_progress p (λ f. 0) 0 input pause.bound in
    have_bytes q stage (noted_within (world_of p (λ f. 0) 0) input pause.bound) k f things (law q (λ f. 0) 0 input stage program (runs pause.bound)) (progress p input pause.bound) pause.call
