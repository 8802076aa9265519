use Rattle.std.proofs.Common.{◌∙◌}
use Rattle.pw_graph_refs.proofs.OwnFlows.{own_first, own_more, own_all}
use Rattle.pw_graph_refs.proofs.cycles.own_places.Goals as goal

pub loop-place-init : goal.loop-place-init
loop-place-init c = record { count = c.in_ok-table.ensures.count; size = c.in_ok-table.ensures.length; holds = own_first c.in_ok-table.table c.in_ok-table.ensures.empty }

pub loop-place-preserved : goal.loop-place-preserved
loop-place-preserved c = record {
  count = c.insert.ensures.count ∙ c.loop-place.invariant.count;
  size = c.insert.ensures.length ∙ c.loop-place.invariant.size;
  holds = own_more c.loop-place.place c.loop-place.table c.insert.new.self c.loop-place.invariant.holds c.insert.ensures.holds;
}

pub returns-clause-holds : goal.returns-clause-holds
returns-clause-holds c = own_all c.args.count c.loop-place.place c.loop-place.table c.loop-place-test.false c.loop-place.auto.place-end c.loop-place.invariant.holds
