use Rattle.pw_top.proofs.top.obey.Goals as goal

pub returns-in-PhaseOne-clause-obeys : goal.returns-in-PhaseOne-clause-obeys
returns-in-PhaseOne-clause-obeys g c =
    c.obey_phase.ensures.obeys (g.I.Source.rest c.args.input.now) (g.O.Sink.taken c.args.out.now) (g.I.Source.faults c.args.input.now) (g.O.Sink.faults c.args.out.now)
