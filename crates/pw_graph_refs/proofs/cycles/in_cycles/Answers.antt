use Rattle.std.proofs.Common.{◌≡◌, ◌<◌, ◌∙◌, ℕ, List, length, subst, sym, vec_len}
use Rattle.std.specs.Prelude.{◌↔◌}
use Rattle.pw_fix.specs.Table.{HoldsAt}
use Rattle.pw_graph_refs.specs.Flows.{AreWithin, FlowsTo, edges_from}
use Rattle.pw_graph_refs.proofs.Edges.{calls_within}
use Rattle.pw_graph_refs.proofs.OwnFlows.{cycles_found}
use Rattle.pw_graph_refs.proofs.cycles.in_cycles.Goals as goal

pub flown-requires : goal.flown-requires
flown-requires c =
    let g = c.args.graph.now in
    let own = c.in_ok-own.own in
    subst (λ (es : List (ℕ × ℕ)). AreWithin (vec_len own.rows) es) (sym c.in_ok-calls.ensures) (subst (λ n. AreWithin n (edges_from 0 g.calls)) (sym (c.in_ok-own.ensures.count ∙ c.len.ensures)) (calls_within g c.requires))

pub returns-clause-holds : goal.returns-clause-holds
returns-clause-holds c =
    let g = c.args.graph.now in
    let own = c.in_ok-own.own in
    let table = c.in_ok-reached.reached in
    let flows = subst (λ (es : List (ℕ × ℕ)). (n v : ℕ) → HoldsAt table n v ↔ FlowsTo es own n v) c.in_ok-calls.ensures c.in_ok-reached.ensures.holds in
    let is = subst (λ (k : ℕ). (n v : ℕ) → HoldsAt own n v ↔ ((n < k) × (v ≡ n))) c.len.ensures c.in_ok-own.ensures.holds in
    cycles_found g own table c.diagonal.result c.requires is flows (c.in_ok-reached.ensures.length ∙ c.in_ok-own.ensures.length ∙ c.len.ensures) c.diagonal.ensures.holds
