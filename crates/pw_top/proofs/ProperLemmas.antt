-- No command refuses anything for want of memory.
use Rattle.std.specs.Prelude.{◌≢◌, refl}
use Rattle.pw_value.specs.declared.fault.LinkFault.{LinkFault}
use Rattle.pw_value.specs.declared.fault.LinkFault.TheVariants as link
use Rattle.pw_top_answer.specs.declared.answer.Answer.{Answer}
use Rattle.pw_top_answer.specs.declared.answer.Answer.TheVariants.{Refused, RefusedSource, Cpp, LinkRefused}
use Rattle.pw_commands.specs.Outcome.{IsStoreAnswer}
use Rattle.pw_commands.specs.Running.{IsRunOrStop}
use Rattle.pw_commands.specs.Showing.{IsShowAnswer}
use Rattle.pw_commands_phases.specs.Made.{IsPhaseAnswer}
use Rattle.pw_law_session.specs.FromSession.FromBuildFiles.Driving.{IsBuildAnswer}
use Rattle.pw_go.specs.Going.{IsGoAnswer}
use Rattle.pw_commands_cpp.specs.Command.{IsCppAnswer}
use Rattle.pw_commands_interp.specs.Interpreting.{IsInterpAnswer}
use Rattle.pw_commands_where.specs.Showing.{IsWhereAnswer}
use Rattle.pw_law_session.specs.FromSession.Bench.{IsBenchAnswer}
use Rattle.pw_law_session.specs.FromSession.Outcomes.{IsSessionAnswer}
use Rattle.pw_top.specs.Answers.{HoldsNoLinkWant, HoldsNoWantOfMemory}

link_proper : (fault : LinkFault) → fault ≢ link.NoMemory → HoldsNoLinkWant fault
link_proper link.NoMemory h = h refl
link_proper _ h = tt

pub build_proper : (answer : Answer) → IsBuildAnswer answer → HoldsNoWantOfMemory answer
build_proper (Refused name refusal) h = h
build_proper (RefusedSource name refusal) h = absurd h
build_proper (Cpp fault) h = absurd h
build_proper (LinkRefused fault) h = link_proper fault h
build_proper _ h = tt

pub go_proper : (answer : Answer) → IsGoAnswer answer → HoldsNoWantOfMemory answer
go_proper (Refused name refusal) h = h
go_proper (RefusedSource name refusal) h = absurd h
go_proper (Cpp fault) h = absurd h
go_proper (LinkRefused fault) h = link_proper fault h
go_proper _ h = tt

pub interp_proper : (answer : Answer) → IsInterpAnswer answer → HoldsNoWantOfMemory answer
interp_proper (Refused name refusal) h = h
interp_proper (RefusedSource name refusal) h = absurd h
interp_proper (Cpp fault) h = absurd h
interp_proper (LinkRefused fault) h = link_proper fault h
interp_proper _ h = tt

pub where_proper : (answer : Answer) → IsWhereAnswer answer → HoldsNoWantOfMemory answer
where_proper (Refused name refusal) h = h
where_proper (RefusedSource name refusal) h = absurd h
where_proper (Cpp fault) h = absurd h
where_proper (LinkRefused fault) h = link_proper fault h
where_proper _ h = tt

pub bench_proper : (answer : Answer) → IsBenchAnswer answer → HoldsNoWantOfMemory answer
bench_proper (Refused name refusal) h = h
bench_proper (RefusedSource name refusal) h = absurd h
bench_proper (Cpp fault) h = absurd h
bench_proper (LinkRefused fault) h = link_proper fault h
bench_proper _ h = tt

pub phase_proper : (answer : Answer) → IsPhaseAnswer answer → HoldsNoWantOfMemory answer
phase_proper (Refused name refusal) h = h
phase_proper (RefusedSource name refusal) h = h
phase_proper (Cpp fault) h = h
phase_proper (LinkRefused fault) h = absurd h
phase_proper _ h = tt

pub cpp_proper : (answer : Answer) → IsCppAnswer answer → HoldsNoWantOfMemory answer
cpp_proper (Refused name refusal) h = absurd h
cpp_proper (RefusedSource name refusal) h = absurd h
cpp_proper (Cpp fault) h = h
cpp_proper (LinkRefused fault) h = absurd h
cpp_proper _ h = tt

pub store_proper : (answer : Answer) → IsStoreAnswer answer → HoldsNoWantOfMemory answer
store_proper (Refused name refusal) h = absurd h
store_proper (RefusedSource name refusal) h = absurd h
store_proper (Cpp fault) h = absurd h
store_proper (LinkRefused fault) h = link_proper fault h
store_proper _ h = tt

pub session_proper : (answer : Answer) → IsSessionAnswer answer → HoldsNoWantOfMemory answer
session_proper (Refused name refusal) h = absurd h
session_proper (RefusedSource name refusal) h = absurd h
session_proper (Cpp fault) h = absurd h
session_proper (LinkRefused fault) h = absurd h
session_proper _ h = tt

pub run_proper : (answer : Answer) → IsRunOrStop answer → HoldsNoWantOfMemory answer
run_proper (Refused name refusal) h = absurd h
run_proper (RefusedSource name refusal) h = absurd h
run_proper (Cpp fault) h = absurd h
run_proper (LinkRefused fault) h = absurd h
run_proper _ h = tt

pub show_proper : (answer : Answer) → IsShowAnswer answer → HoldsNoWantOfMemory answer
show_proper (Refused name refusal) h = absurd h
show_proper (RefusedSource name refusal) h = absurd h
show_proper (Cpp fault) h = absurd h
show_proper (LinkRefused fault) h = absurd h
show_proper _ h = tt
