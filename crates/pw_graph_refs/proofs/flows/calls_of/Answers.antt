use Rattle.std.proofs.Common.{◌≡◌, ◌<◌, ◌∙◌, ◌++◌, ℕ, List, ap, get_or, length, subst, sym, take}
use Rattle.pw_graph_refs.specs.Flows.{edges_of, edges_from}
use Rattle.pw_graph_refs.proofs.Marks.{edges_more}
use Rattle.pw_graph_refs.proofs.flows.calls_of.Goals as goal

pub loop-from-preserved : goal.loop-from-preserved
loop-from-preserved c =
    let rows = c.args.graph.now.calls in
    let i = c.loop-from.from in
    let row = c.index-rows-from.result in
    let lt : i < length rows = subst (λ (rs : List (List ℕ)). i < length rs) c.as_slice-rows.ensures c.loop-from-test.true in
    let at : row ≡ get_or rows i row = subst (λ (rs : List (List ℕ)). row ≡ get_or rs i row) c.as_slice-rows.ensures c.index-rows-from.is in
    c.in_ok-add_calls.ensures ∙ ap (λ (es : List (ℕ × ℕ)). es ++ edges_of i c.as_slice.result.now) c.loop-from.invariant ∙ ap (λ (r : List ℕ). edges_from 0 (take i rows) ++ edges_of i r) c.as_slice.ensures ∙ sym (edges_more rows i row lt at)
