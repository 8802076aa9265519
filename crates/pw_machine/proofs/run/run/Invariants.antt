-- The turns so far are a run that is spent, and no fault was counted.
use Rattle.std.proofs.Common.{◌≡◌, None}
use Rattle.pw_machine.specs.declared.ends.Stop.TheVariants.{Spent}
use Rattle.pw_machine.specs.Stops.{RunsOver}
use Rattle.pw_machine.proofs.run.run.Given as goal

abbrev pub invariant-loop-steps : goal.invariant-loop-steps
invariant-loop-steps g l = record {
  over : RunsOver l.fn.p (g.I.Source.rest l.fn.input) (g.O.Sink.taken l.fn.out) l.steps Spent l.steps l.p (g.I.Source.rest l.input) (g.O.Sink.taken l.out);
  going : l.p.stopped ≡ None;
  was_going : l.fn.p.stopped ≡ None;
  read : g.I.Source.faults l.input ≡ g.I.Source.faults l.fn.input;
  write : g.O.Sink.faults l.out ≡ g.O.Sink.faults l.fn.out;
}
