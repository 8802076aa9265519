use Rattle.std.proofs.Common.{map}
use Rattle.pw_graph.specs.Making.{home}
use Rattle.pw_graph.proofs.Steps.{homes_next}
use Rattle.pw_graph.proofs.homes.add_homes.Goals as goal

pub loop-i-preserved : goal.loop-i-preserved
loop-i-preserved c = homes_next home c.loop-i.all.items c.push.new.self.items c.home_at.result (map home c.args.all.now.items) c.args.functions.now c.args.uses.now c.loop-i.i c.loop-i-test.true c.in_ok-push.ensures.items c.home_at.ensures c.loop-i.invariant
