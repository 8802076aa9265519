use Rattle.pw_interp.specs.declared.ends.InterpFault.TheVariants.{WriteFault}
use Rattle.pw_interp.proofs.TurnLaws.{write_gives_up, write_goes}
use Rattle.pw_interp.proofs.turns.write_byte.Goals as goal

pub returns-in-Ok-clause-turns : goal.returns-in-Ok-clause-turns
returns-in-Ok-clause-turns g c main now rest =
    write_goes main c.args.machine.now _ now rest (g.O.Sink.taken c.args.out.now) _ c.args.byte c.in-Ok.ensures.ok (λ world st end at. c.sent.ensures main world now st end at)

pub returns-in-Err-clause-turns : goal.returns-in-Err-clause-turns
returns-in-Err-clause-turns g c main now rest =
    write_gives_up c.runs_go_on.ensures.machines main c.args.machine.now c.args.machine.now now rest (g.O.Sink.taken c.args.out.now) _ WriteFault c.args.byte c.in-Err.ensures.failed
