use Rattle.std.proofs.Common.{ℕ, List, subst, sym}
use Rattle.pw_fields.specs.FieldNames.{IsTableOf}
use Rattle.pw_graph.specs.Making.{all_taken, all_escaped}
use Rattle.pw_graph.proofs.building.graph_among.Goals as goal

pub graph_from-requires-clause-taken : goal.graph_from-requires-clause-taken
graph_from-requires-clause-taken c = subst (λ (ns : List (List ℕ)). IsTableOf ns (all_taken c.args.summaries.now)) (sym c.deref.ensures.value) c.in_ok-taken.ensures

pub graph_from-requires-clause-escaped : goal.graph_from-requires-clause-escaped
graph_from-requires-clause-escaped c = subst (λ (ns : List (List ℕ)). IsTableOf ns (all_escaped c.args.summaries.now)) (sym c.deref-2.ensures.value) c.in_ok-escaped.ensures
