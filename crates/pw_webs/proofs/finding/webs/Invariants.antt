use Rattle.pw_webs.proofs.Gather.{AreFound}
use Rattle.pw_webs.proofs.finding.webs.Given as goal

abbrev pub invariant-loop-global : goal.invariant-loop-global
invariant-loop-global l = AreFound l.graph l.global l.found.items
