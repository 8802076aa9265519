use Rattle.std.proofs.Common.{◌≡◌, ◌<◌, ◌≤◌, ◌+◌, ◌∙◌, ℕ, List, length, refl, ap, subst, sym}
use Rattle.std.specs.Prelude.{Some, slice_get, ◌↔◌}
use Rattle.std.proofs.lemmas.Option.{slice_get_read}
use Rattle.pw_fix.specs.Row.{Holds}
use Rattle.pw_fix.specs.declared.bit_row.BitRow.{BitRow}
use Rattle.pw_clusters.specs.Clusters.{IsInner}
use Rattle.pw_cluster_roots.proofs.InnerLaws.{inner_here, one_put, one_left, all_inner, clash}
use Rattle.pw_cluster_roots.proofs.inner.inner_of.Goals as goal
use Rattle.pw_cluster_roots.proofs.inner.inner_of.Goals.{then-is_inner, else-is_inner}

pub loop-place-preserved : goal.loop-place-preserved
loop-place-preserved c =
    let ss = c.args.summaries.now in
    let g = c.args.graph.now in
    let i = c.loop-place.place in
    let known = c.in_ok-known.known in
    let row = c.as_slice-row.result.now in
    let name = c.index-functions-place.result in
    let functions = c.as_slice-functions.ensures in
    let past : i < length g.functions = subst (λ (fs : List (List ℕ)). i < length fs) functions c.loop-place-test.true in
    let below : i < length c.args.callers.now = subst (λ (n : ℕ). i < n) (sym c.requires.count) past in
    let at : slice_get g.functions i ≡ Some name = subst (λ (fs : List (List ℕ)). slice_get fs i ≡ Some name) functions (slice_get_read c.as_slice-functions.result.now (length c.as_slice-functions.result.now) i name refl c.loop-place-test.true c.index-functions-place.is) in
    let there : slice_get c.args.callers.now i ≡ Some row = subst (λ (r : List ℕ). slice_get c.args.callers.now i ≡ Some r) (sym c.as_slice-row.ensures) (slice_get_read c.args.callers.now (length c.args.callers.now) i c.index-callers-place.result refl below c.index-callers-place.is) in
    let is = inner_here ss known.defined.items known.taken.items known.escaped.items c.in_ok-known.ensures.defined c.in_ok-known.ensures.taken c.in_ok-known.ensures.escaped g c.args.callers.now c.args.cycles.now i row name c.requires.callers c.requires.cycles at there in
    elim c.if-is_inner.branch [
      | then-is_inner w ↦ record {
        width = ap (λ (r : BitRow). r.len) w.inner-is ∙ w.insert.ensures.length ∙ c.loop-place.invariant.width;
        holds = subst (λ (r : BitRow). (f : ℕ) → Holds r f ↔ ((f < i + 1) × IsInner ss g f)) (sym w.inner-is) (one_put (IsInner ss g) i c.loop-place.inner w.insert.new.self (is.0 (c.is_inner.ensures.0 w.if-is_inner.true)) w.insert.ensures.holds c.loop-place.invariant.holds);
      }
      | else-is_inner w ↦ record {
        width = ap (λ (r : BitRow). r.len) w.inner-is ∙ c.loop-place.invariant.width;
        holds = subst (λ (r : BitRow). (f : ℕ) → Holds r f ↔ ((f < i + 1) × IsInner ss g f)) (sym w.inner-is) (one_left (IsInner ss g) i c.loop-place.inner (λ inner. clash c.is_inner.result w.if-is_inner.false (c.is_inner.ensures.1 (is.1 inner))) c.loop-place.invariant.holds);
      }
    ]

pub returns : goal.returns
returns c =
    all_inner c.args.summaries.now c.args.graph.now c.loop-place.place c.loop-place.inner c.loop-place.invariant.width (subst (λ (fs : List (List ℕ)). length fs ≤ c.loop-place.place) c.as_slice-functions.ensures c.loop-place-test.false) c.loop-place.invariant.holds
