use Rattle.pw_interp.proofs.turns.exchange.Goals as goal

pub returns-in-Read-clause-turns : goal.returns-in-Read-clause-turns
returns-in-Read-clause-turns g c main now = c.read_byte.ensures.turns main now (g.O.Sink.taken c.args.out.now)

pub returns-in-Write-clause-turns : goal.returns-in-Write-clause-turns
returns-in-Write-clause-turns g c main now = c.write_byte.ensures.turns main now (g.I.Source.rest c.args.input.now)

pub returns-in-Read-clause-write : goal.returns-in-Read-clause-write
returns-in-Read-clause-write g c = c.read_byte.ensures.write (g.O.Sink.faults c.args.out.now)

pub returns-in-Write-clause-read : goal.returns-in-Write-clause-read
returns-in-Write-clause-read g c = c.write_byte.ensures.read (g.I.Source.faults c.args.input.now)
