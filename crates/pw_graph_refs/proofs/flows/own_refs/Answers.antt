use Rattle.std.proofs.Common.{◌≡◌, ◌<◌, ◌≤◌, ◌∙◌, ℕ, List, length, refl, subst, sym, All}
use Rattle.std.specs.Prelude.{Some, slice_get}
use Rattle.std.proofs.lemmas.Option.{slice_get_read}
use Rattle.pw_graph_refs.proofs.Marks.{own_none, own_put, own_end, refs_below}
use Rattle.pw_graph_refs.proofs.flows.own_refs.Goals as goal

pub loop-place-init : goal.loop-place-init
loop-place-init c = record { count = c.in_ok-table.ensures.count ∙ c.len.ensures; size = c.in_ok-table.ensures.length ∙ c.len-2.ensures; holds = own_none c.args.graph.now c.in_ok-table.table c.in_ok-table.ensures.empty }

pub mark-requires-clause-globals : goal.mark-requires-clause-globals
mark-requires-clause-globals c =
    let refs = c.args.graph.now.refs in
    let i = c.loop-place.place in
    let row = c.index-refs-place.result in
    let there = subst (λ (rs : List (List (ℕ × ℕ × ℕ))). slice_get rs i ≡ Some row) c.as_slice-refs.ensures (slice_get_read c.as_slice-refs.result.now (length c.as_slice-refs.result.now) i row refl c.loop-place-test.true c.index-refs-place.is) in
    subst (λ (rs : List (ℕ × ℕ × ℕ)). All (λ r. r.0 < c.loop-place.table.len) rs) (sym c.as_slice.ensures) (refs_below c.args.graph.now c.requires i c.loop-place.table.len row there c.loop-place.invariant.size)

pub loop-place-preserved : goal.loop-place-preserved
loop-place-preserved c =
    let i = c.loop-place.place in
    let row = c.index-refs-place.result in
    let there = subst (λ (rs : List (List (ℕ × ℕ × ℕ))). slice_get rs i ≡ Some row) c.as_slice-refs.ensures (slice_get_read c.as_slice-refs.result.now (length c.as_slice-refs.result.now) i row refl c.loop-place-test.true c.index-refs-place.is) in
    record {
      count = c.mark.ensures.count ∙ c.loop-place.invariant.count;
      size = c.mark.ensures.length ∙ c.loop-place.invariant.size;
      holds = own_put c.args.graph.now i c.as_slice.result.now c.loop-place.table c.mark.new.table (subst (λ (r : List (ℕ × ℕ × ℕ)). slice_get c.args.graph.now.refs i ≡ Some r) (sym c.as_slice.ensures) there) c.loop-place.invariant.holds c.mark.ensures.holds;
    }

pub returns : goal.returns
returns c = record {
  count = c.loop-place.invariant.count;
  width = c.loop-place.invariant.size;
  of = own_end c.args.graph.now c.loop-place.place c.loop-place.table (subst (λ (rs : List (List (ℕ × ℕ × ℕ))). length rs ≤ c.loop-place.place) c.as_slice-refs.ensures c.loop-place-test.false) c.loop-place.invariant.holds;
}
