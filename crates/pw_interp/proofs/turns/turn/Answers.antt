use Rattle.pw_interp_calls.specs.Functions.{callable_of}
use Rattle.pw_interp_state.specs.Shown.{view_state}
use Rattle.pw_interp.proofs.turns.turn.Goals as goal

pub returns-in-None-clause-turns : goal.returns-in-None-clause-turns
returns-in-None-clause-turns g c = c.take_step.ensures.turns (g.I.Source.rest c.args.input.now) (g.O.Sink.taken c.args.out.now)

pub returns-in-Some-clause-turns : goal.returns-in-Some-clause-turns
returns-in-Some-clause-turns g c = c.exchange.ensures.turns (callable_of c.args.main).body (view_state c.args.state.now)

pub returns-in-None-clause-read : goal.returns-in-None-clause-read
returns-in-None-clause-read g c = c.take_step.ensures.read (g.I.Source.faults c.args.input.now)

pub returns-in-None-clause-write : goal.returns-in-None-clause-write
returns-in-None-clause-write g c = c.take_step.ensures.write (g.O.Sink.faults c.args.out.now)
