use Rattle.std.proofs.Common.{◌≡◌, ◌<◌, ◌∙◌, ℕ, List, length, refl, subst, sym, arith}
use Rattle.std.specs.Prelude.{Some, slice_get, slice_index_or, Contains, ◌↔◌}
use Rattle.std.proofs.lemmas.Option.{slice_get_read, same_Some}
use Rattle.pw_graph.specs.CallGraph.{Calls}
use Rattle.pw_webs.specs.Walking.{Leads}
use Rattle.pw_webs.proofs.RegionLaws.{on_true, on_false}
use Rattle.pw_cluster_roots.proofs.Lists.{row_below}
use Rattle.pw_cluster_roots.proofs.RoundLaws.{begun, round_more, round_same, row_calls, caller_below}
use Rattle.pw_cluster_roots.proofs.rounds.round.Goals as goal
use Rattle.pw_cluster_roots.proofs.rounds.round.Goals.{then-settle, else-settle}

pub loop-place-init : goal.loop-place-init
loop-place-init c = begun c.args.graph.now c.args.inner.now c.args.settled.now c.args.roots.now c.requires.settled

pub settle-requires-clause-within : goal.settle-requires-clause-within
settle-requires-clause-within c =
    let g = c.args.graph.now in
    let i = c.loop-place.place in
    let row = c.index-callers-place.result in
    let there = slice_get_read c.args.callers.now (length c.args.callers.now) i row refl c.loop-place-test.true c.index-callers-place.is in
    let each = c.loop-place.invariant.are.each in
    subst (λ (cs : List ℕ). (k : ℕ) → (d : ℕ) → k < length cs → slice_index_or cs k d < length c.loop-place.roots) (sym c.as_slice.ensures)
    (row_below row (length c.loop-place.roots) (λ q h. let lt = caller_below g q i c.requires.graph.call_rows ((row_calls g c.args.callers.now i row c.requires.callers there q).0 h) in omega (arith, lt, each)))

pub loop-place-preserved : goal.loop-place-preserved
loop-place-preserved c =
    let g = c.args.graph.now in
    let inner = c.args.inner.now in
    let i = c.loop-place.place in
    let row = c.index-callers-place.result in
    let there = slice_get_read c.args.callers.now (length c.args.callers.now) i row refl c.loop-place-test.true c.index-callers-place.is in
    let calls = row_calls g c.args.callers.now i row c.requires.callers there in
    let own = subst (λ (cs : List ℕ). (q : ℕ) → Contains cs q ↔ Calls g q i) (sym c.as_slice.ensures) calls in
    let past : i < length g.functions = subst (λ (n : ℕ). i < n) c.requires.count c.loop-place-test.true in
    elim c.if-settle.branch [
      | then-settle w ↦
          let k = on_true c.settle.result _ c.settle.ensures.settled w.if-settle.true in
          round_more g inner c.args.settled.now c.loop-place.settled c.settle.new.settled c.loop-place.roots c.settle.new.roots c.loop-place.added c.if-settle.added i k.3.0 c.as_slice.result.now past c.settle.ensures.width own c.requires.called c.loop-place.invariant w.added-is k.0 k.1 k.2 k.3.1 k.3.2
      | else-settle w ↦
          let k = on_false c.settle.result _ c.settle.ensures.not w.if-settle.false in
          round_same g inner c.args.settled.now c.loop-place.settled c.settle.new.settled c.loop-place.roots c.settle.new.roots c.loop-place.added c.if-settle.added i c.as_slice.result.now own c.loop-place.invariant w.added-is k.0 k.1 k.2
    ]
