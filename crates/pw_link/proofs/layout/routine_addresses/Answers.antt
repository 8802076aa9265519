use Rattle.pw_link.specs.Views.{placed_view}
use Rattle.pw_link.proofs.Growing.{last_addresses}
use Rattle.pw_link.proofs.layout.routine_addresses.Goals as goal

pub returns : goal.returns
returns c = last_addresses placed_view c.args.text.now c.saturating_sub.result c.loop-each.each-index c.loop-each.addresses.items c.saturating_sub.ensures c.loop-each-test.false c.loop-each.invariant
