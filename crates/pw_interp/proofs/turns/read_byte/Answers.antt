use Rattle.pw_interp.specs.declared.ends.InterpFault.TheVariants.{ReadFault}
use Rattle.pw_interp.proofs.TurnLaws.{read_gives_up, read_goes}
use Rattle.pw_interp.proofs.turns.read_byte.Goals as goal

pub returns-in-Ok-clause-turns : goal.returns-in-Ok-clause-turns
returns-in-Ok-clause-turns g c main now taken =
    read_goes main c.args.machine.now _ now (g.I.Source.rest c.args.input.now) _ taken c.in-Ok.byte c.in-Ok.ensures.rest (λ world st after end read at. c.receive.ensures main world now st after end read at)

pub returns-in-Err-clause-turns : goal.returns-in-Err-clause-turns
returns-in-Err-clause-turns g c main now taken =
    read_gives_up c.runs_go_on.ensures.machines main c.args.machine.now c.args.machine.now now (g.I.Source.rest c.args.input.now) _ taken ReadFault _ c.in-Err.ensures.rest
