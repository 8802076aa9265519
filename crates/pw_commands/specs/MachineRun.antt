-- How a run of the machine answers, what it puts out and what it leaves of the input.
use Rattle.std.specs.Prelude.{ℕ, List, []}
use Rattle.pw_machine.specs.declared.ends.End.{End}
use Rattle.pw_machine.specs.declared.ends.End.TheVariants as end
use Rattle.pw_machine.specs.declared.ends.Stop.{Stop}
use Rattle.pw_machine.specs.declared.ends.Stop.TheVariants as stop
use Rattle.pw_machine.specs.Run.{Progress, Running, Stopped}
pub use Rattle.pw_machine.specs.Run.{start_state}
use Rattle.pw_top_answer.specs.Effects.{Effect}
use Rattle.pw_top_answer.specs.declared.answer.Answer.{Answer}
use Rattle.pw_top_answer.specs.declared.answer.Answer.TheVariants.{Done, Ended, Usage, Refused, LinkRefused, StackStop, Spent, Halted, ReadFault, WriteFault, StoreFault, NoMemory, BadFile, BadScript, NoFrames, RefusedSource, Cpp, Undefined, UndefinedSource}

-- how a run ended, as an answer; one that goes on has spent its budget
abbrev pub end_answer : End → Answer
end_answer (end.Ended status) = Ended status
end_answer end.StackStop = StackStop
end_answer (end.Halted halt at) = Halted halt at

abbrev pub run_answer : Progress → Answer
run_answer (Running state) = Spent
run_answer (Stopped end state) = end_answer end

abbrev pub run_output : Progress → List ℕ
run_output (Running state) = state.output
run_output (Stopped end state) = state.output

abbrev pub run_rest : Progress → List ℕ
run_rest (Running state) = state.rest
run_rest (Stopped end state) = state.rest

-- a run, as far as it went
abbrev pub ran : Progress → Effect
ran progress = record { answer = run_answer progress; puts = []; output = run_output progress; rest = run_rest progress }

-- what a call of the machine's run answers
abbrev pub stop_answer : Stop → Answer
stop_answer (stop.Ended status) = Ended status
stop_answer stop.StackStop = StackStop
stop_answer stop.Spent = Spent
stop_answer (stop.Halted halt at) = Halted halt at
stop_answer stop.ReadFault = ReadFault
stop_answer stop.WriteFault = WriteFault

-- the answers to which a run may come
abbrev pub IsRunAnswer : Answer → Type 0
IsRunAnswer Done = ⊥
IsRunAnswer Usage = ⊥
IsRunAnswer (Refused name refusal) = ⊥
IsRunAnswer (RefusedSource name refusal) = ⊥
IsRunAnswer (Cpp fault) = ⊥
IsRunAnswer (LinkRefused fault) = ⊥
IsRunAnswer StoreFault = ⊥
IsRunAnswer (BadFile name at) = ⊥
IsRunAnswer (BadScript at) = ⊥
IsRunAnswer (NoFrames address) = ⊥
IsRunAnswer (Undefined operation name token) = ⊥
IsRunAnswer (UndefinedSource operation name token) = ⊥
IsRunAnswer _ = Unit {0}
