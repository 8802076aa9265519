use Rattle.std.proofs.Common.{refl, sym, ◌∙◌}
use Rattle.pw_top_answer.specs.declared.answer.Answer.TheVariants.{NoMemory}
use Rattle.pw_session.specs.Runs.{ran_text, runs_as}
use Rattle.pw_session.proofs.OutputLemmas.{puts_alone}
use Rattle.pw_session.proofs.RunLemmas.{fault_says, ran_fault, ran_then, stop_writes}
use Rattle.pw_session.proofs.runs.run_loaded.Goals as goal

pub returns-in_default-clause-output : goal.returns-in_default-clause-output
returns-in_default-clause-output g c =
    puts_alone (ran_text (runs_as c.args.budget c.args.input.now c.args.machine.now.core)) NoMemory (g.O.Sink.taken c.args.out.now) (g.O.Sink.taken c.args.out.now) (λ more. tt) refl

pub returns-then-is_stop-clause-output : goal.returns-then-is_stop-clause-output
returns-then-is_stop-clause-output g c =
    ran_then c.args.budget c.args.machine.now.core c.in-Ok.source c.args.input.now c.run_machine-answer.result c.say_stop.result (g.O.Sink.taken c.args.out.now) (g.O.Sink.taken c.run_machine-answer.new.out) (g.O.Sink.taken c.say_stop.new.out) c.in-Ok.ensures
    (sym c.is_stop.ensures ∙ c.if-is_stop.true) c.run_machine-answer.ensures.answer c.run_machine-answer.ensures.output c.say_stop.ensures.output

pub returns-then-is_stop-clause-write : goal.returns-then-is_stop-clause-write
returns-then-is_stop-clause-write g c =
    stop_writes c.run_machine-answer.result c.say_stop.result (g.O.Sink.faults c.args.out.now) (g.O.Sink.faults c.run_machine-answer.new.out) (g.O.Sink.faults c.say_stop.new.out) (sym c.is_stop.ensures ∙ c.if-is_stop.true) c.run_machine-answer.ensures.write c.say_stop.ensures.write

pub returns-clause-output : goal.returns-clause-output
returns-clause-output g c =
    ran_fault c.args.budget c.args.machine.now.core c.in-Ok.source c.args.input.now c.run_machine-answer.result (g.O.Sink.taken c.args.out.now) (g.O.Sink.taken c.run_machine-answer.new.out) c.in-Ok.ensures (sym c.is_stop.ensures ∙ c.if-is_stop.false) c.run_machine-answer.ensures.run
    c.run_machine-answer.ensures.output

pub returns-clause-answer : goal.returns-clause-answer
returns-clause-answer g c = fault_says c.run_machine-answer.result (sym c.is_stop.ensures ∙ c.if-is_stop.false) c.run_machine-answer.ensures.run c.run_machine-answer.ensures.read
