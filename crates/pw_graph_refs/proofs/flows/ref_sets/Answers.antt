use Rattle.std.proofs.Common.{◌∙◌, ℕ, List, ap, subst, sym, vec_len}
use Rattle.std.specs.Prelude.{◌↔◌}
use Rattle.pw_fix.specs.Table.{HoldsAt}
use Rattle.pw_graph_refs.specs.Flows.{AreWithin, FlowsTo, edges_from, turned}
use Rattle.pw_graph_refs.proofs.Edges.{calls_within, back_within, from_callers, from_callees}
use Rattle.pw_graph_refs.proofs.flows.ref_sets.Goals as goal

pub flown-requires : goal.flown-requires
flown-requires c =
    let g = c.args.graph.now in
    let own = c.in_ok-own.own in
    subst (λ (es : List (ℕ × ℕ)). AreWithin (vec_len own.rows) es) (sym c.in_ok-calls.ensures) (subst (λ n. AreWithin n (edges_from 0 g.calls)) (sym c.in_ok-own.ensures.count) (calls_within g c.requires))

pub flown-requires-2 : goal.flown-requires-2
flown-requires-2 c =
    let g = c.args.graph.now in
    let own = c.in_ok-own.own in
    let back_is = c.in_ok-back.ensures ∙ ap (λ (es : List (ℕ × ℕ)). turned es) (c.deref.ensures.value ∙ c.in_ok-calls.ensures) in
    subst (λ (es : List (ℕ × ℕ)). AreWithin (vec_len own.rows) es) (sym back_is) (subst (λ n. AreWithin n (turned (edges_from 0 g.calls))) (sym c.in_ok-own.ensures.count) (back_within g c.requires))

pub returns : goal.returns
returns c =
    let g = c.args.graph.now in
    let own = c.in_ok-own.own in
    let owns = c.in_ok-own.ensures in
    let callers = c.in_ok-from_callers.from_callers in
    let callees = c.in_ok-from_callees.from_callees in
    let back_is = c.in_ok-back.ensures ∙ ap (λ (es : List (ℕ × ℕ)). turned es) (c.deref.ensures.value ∙ c.in_ok-calls.ensures) in
    let down = subst (λ (es : List (ℕ × ℕ)). (n v : ℕ) → HoldsAt callers n v ↔ FlowsTo es own n v) c.in_ok-calls.ensures c.in_ok-from_callers.ensures.holds in
    let up = subst (λ (es : List (ℕ × ℕ)). (n v : ℕ) → HoldsAt callees n v ↔ FlowsTo es own n v) back_is c.in_ok-from_callees.ensures.holds in
    record {
      itself = owns;
      from_callers = record { count = c.in_ok-from_callers.ensures.count ∙ owns.count; width = c.in_ok-from_callers.ensures.length ∙ owns.width; of = from_callers g own callers owns down };
      from_callees = record { count = c.in_ok-from_callees.ensures.count ∙ owns.count; width = c.in_ok-from_callees.ensures.length ∙ owns.width; of = from_callees g own callees owns up };
    }
