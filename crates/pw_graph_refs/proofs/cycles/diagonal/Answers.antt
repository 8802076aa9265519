use Rattle.std.proofs.Common.{◌∙◌}
use Rattle.pw_fix.specs.Table.{HoldsAt}
use Rattle.pw_graph_refs.proofs.OwnFlows.{some_first, some_more, some_all}
use Rattle.pw_graph_refs.proofs.cycles.diagonal.Goals as goal

pub loop-place-init : goal.loop-place-init
loop-place-init c = record { size = c.in_ok-row.ensures.length; holds = some_first (λ f. HoldsAt c.args.table.now f f) c.in_ok-row.row c.in_ok-row.ensures.empty }

pub loop-place-preserved : goal.loop-place-preserved
loop-place-preserved c = record {
  size = c.add_own.ensures.length ∙ c.loop-place.invariant.size;
  holds = some_more (λ f. HoldsAt c.args.table.now f f) c.loop-place.place c.loop-place.row c.add_own.new.row c.loop-place.invariant.holds c.add_own.ensures.holds;
}

pub returns-clause-holds : goal.returns-clause-holds
returns-clause-holds c = some_all (λ f. HoldsAt c.args.table.now f f) c.args.table.now.len c.loop-place.place c.loop-place.row c.loop-place-test.false c.loop-place.auto.place-end c.loop-place.invariant.holds
