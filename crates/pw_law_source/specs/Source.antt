-- The source's runs, by their bound, as stages with the calls and returns that they note.
use Rattle.std.specs.Prelude.{ℕ, List}
use Rattle.pw_cmean.specs.Worlds.{Program}
use Rattle.pw_cmean.specs.Acts.{Moment, State, Ending, Undefined, StackFull, Exit, Bound, Wrong, Outcome, Gives, Ends}
use Rattle.pw_cmean.specs.SourceRun.{Run, run_main, start_state, source_run}
use Rattle.pw_run.specs.Runs.{View, Stage, Going, Over, Ended}
use Rattle.pw_run.specs.Runs as run
use Rattle.pw_run_agreement.specs.Agreement as agreement
use Rattle.pw_run_agreement.specs.Agreement.{SourceEnd, SourceRun}

-- ---- with what is noted

abbrev pub shown : ℕ → State → View Moment
shown n s = record { output = s.out; read = s.read; events = n; log = s.moments }

-- a run that reached its bound goes on, and the bound is what it counted
abbrev pub ended_so : ℕ → Ending → State → Stage Moment
ended_so n (Exit status) s = Over (Ended status) (shown 0 s)
ended_so n StackFull s = Over run.StackFull (shown 0 s)
ended_so n Bound s = Going (shown n s)
ended_so n (Undefined operation home token) s = run.Wrong
ended_so n Wrong s = run.Wrong

abbrev pub staged : ℕ → Outcome (Unit {0}) → Stage Moment
staged n (Gives done s) = Over (Ended 0) (shown 0 s)
staged n (Ends ending s) = ended_so n ending s

unfoldable pub source_stages : Program → (List ℕ → ℕ) → ℕ → List ℕ → ℕ → Stage Moment
source_stages p frame_of stack input n =
    staged n (run_main (record { program = p; frame_of = frame_of; stack = stack }) n (start_state p input))

-- ---- with what is noted up to an end of any kind

-- As those, but where the run comes to an undefined operation it may go on in any way, and up to there it has shown what it has.
abbrev pub ended_within : ℕ → Ending → State → Stage Moment
ended_within n (Exit status) s = Over (Ended status) (shown 0 s)
ended_within n StackFull s = Over run.StackFull (shown 0 s)
ended_within n Bound s = Going (shown n s)
ended_within n (Undefined operation home token) s = Going (shown 0 s)
ended_within n Wrong s = Going (shown 0 s)

abbrev pub staged_within : ℕ → Outcome (Unit {0}) → Stage Moment
staged_within n (Gives done s) = Over (Ended 0) (shown 0 s)
staged_within n (Ends ending s) = ended_within n ending s

unfoldable pub source_progress : Program → (List ℕ → ℕ) → ℕ → List ℕ → ℕ → Stage Moment
source_progress p frame_of stack input n =
    staged_within n (run_main (record { program = p; frame_of = frame_of; stack = stack }) n (start_state p input))

-- ---- without

abbrev pub end_of : Ending → SourceEnd
end_of (Undefined operation home token) = agreement.Undefined
end_of StackFull = agreement.Stack
end_of (Exit status) = agreement.Ends status
end_of Bound = agreement.Bound
end_of Wrong = agreement.Undefined

abbrev pub told : Run → SourceRun
told r = record { end = end_of r.end; output = r.out; read = r.read }

abbrev pub source_runs : Program → (List ℕ → ℕ) → ℕ → List ℕ → ℕ → SourceRun
source_runs p frame_of stack input n = told (source_run p frame_of stack input n)
