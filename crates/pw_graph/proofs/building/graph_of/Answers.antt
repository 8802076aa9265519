use Rattle.std.proofs.Common.{◌≡◌, List, length, map, subst, sym}
use Rattle.pw_graph.specs.declared.homes.Home.{Home}
use Rattle.pw_graph.specs.Making.{IsOrdered, home, all_homes}
use Rattle.pw_graph.proofs.Once.{homes_apart}
use Rattle.pw_graph.proofs.building.graph_of.Goals as goal

pub sorted_homes-requires-clause-distinct : goal.sorted_homes-requires-clause-distinct
sorted_homes-requires-clause-distinct c = homes_apart c.args.summaries.now c.requires.lawful c.requires.linked

pub graph_among-requires-clause-homes : goal.graph_among-requires-clause-homes
graph_among-requires-clause-homes c = subst (λ (hs : List Home). IsOrdered (λ h. h.0) (all_homes c.args.summaries.now) (map home hs)) (sym c.deref.ensures.value) c.in_ok-homes.ensures.order

pub graph_among-requires-clause-count : goal.graph_among-requires-clause-count
graph_among-requires-clause-count c = subst (λ (hs : List Home). length (map home hs) ≡ length (all_homes c.args.summaries.now)) (sym c.deref.ensures.value) c.in_ok-homes.ensures.count
