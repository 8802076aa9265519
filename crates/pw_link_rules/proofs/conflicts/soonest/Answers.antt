use Rattle.std.proofs.Common.{map, arith}
use Rattle.pw_link_rules.specs.Entries.{declaration}
use Rattle.pw_link_rules.proofs.Clashes.{soonest_one, soonest_first}
use Rattle.pw_link_rules.proofs.conflicts.soonest.Goals as goal

pub loop-k-init : goal.loop-k-init
loop-k-init c = soonest_one (map declaration c.args.all.now) c.args.i c.args.j c.requires.two

pub returns : goal.returns
returns c = soonest_first (map declaration c.args.all.now) c.requires.order c.args.i c.run_end-stop.result c.loop-k.k c.loop-k.found.0 c.loop-k.found.1 c.loop-k.invariant c.run_end-stop.ensures (omega (arith, c.loop-k-test.false)) c.requires.first
