use Rattle.pw_go.proofs.RunLemmas.{core_is, no_load_fault, run_memory, runs_image}
use Rattle.pw_go.proofs.going.run_built.Goals as goal

pub returns-in-Ok-clause-run : goal.returns-in-Ok-clause-run
returns-in-Ok-clause-run g c =
    runs_image c.args.image.now c.args.budget c.in-Ok.machine.core (g.I.Source.rest c.args.input.now) (g.I.Source.rest c.run_machine.new.input) (g.O.Sink.taken c.args.out.now) (g.O.Sink.taken c.run_machine.new.out) c.run_machine.result
    (λ k h. core_is c.in-Ok.machine k.value (c.in-Ok.ensures.only k h)) c.run_machine.ensures.answer c.run_machine.ensures.output c.run_machine.ensures.rest

pub returns-in-Err-NoMemory-clause-run : goal.returns-in-Err-NoMemory-clause-run
returns-in-Err-NoMemory-clause-run g c = run_memory c.args.image.now c.args.budget (g.I.Source.rest c.args.input.now) (g.O.Sink.taken c.args.out.now)

pub unreachable-requires : goal.unreachable-requires
unreachable-requires g c = absurd (no_load_fault c.args.image.now c.in-Err-LoadFault.field-0 c.in-Err-LoadFault.field-0-0 c.in-Err-LoadFault.field-0-is c.requires c.in-Err-LoadFault.ensures.only)
