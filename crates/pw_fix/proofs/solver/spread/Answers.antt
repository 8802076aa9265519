use Rattle.std.proofs.Common.{◌≡◌, ℕ, ◌+◌, ◌<◌, ◌≤◌, length, Contains, Some, slice_get, take, get_or, sym, subst, arith, inl, inr, ◌⊎◌, ap, ◌∙◌}
use Rattle.std.proofs.Math.ListN.{length-set}
use Rattle.std.proofs.lemmas.List.{take_all, get_or_default}
use Rattle.std.proofs.lemmas.List.Elements.{All-set}
use Rattle.std.proofs.lemmas.Option.{slice_get-get_or}
use Rattle.pw_fix.specs.Spread.{IsSpread}
use Rattle.pw_fix.specs.Waiting.{IsWaiting, node_count, waiting_count}
use Rattle.pw_fix.proofs.Spreading.{spread_here, spread_elsewhere, room_shrinks, room_stays}
use Rattle.pw_fix.proofs.Places.{set_cases, All-at}
use Rattle.pw_fix.proofs.Adjacency.{front_cases, front_kept, front_last}
use Rattle.pw_fix.proofs.solver.spread.Goals as goal
use Rattle.pw_fix.proofs.solver.spread.Goals.{then-join+in_ok-push, else-join}

pub loop-node-preserved : goal.loop-node-preserved
loop-node-preserved g c =
    let m = g.L.Lattice in
    let lattice = c.args.lattice.now in
    let value = c.args.value.now in
    let successors = c.args.successors.now in
    let i = c.loop-node.node-index in
    let s = get_or successors i 0 in
    let before = c.loop-node.inflows in
    let long : length before ≡ length c.args.inflows.now = c.loop-node.invariant.each in
    let here : s < length before = rw long (c.requires.successors i 0 c.loop-node-test.true) in
    let old = get_or before s c.index-inflows-node.result in
    let there = slice_get-get_or before s c.index-inflows-node.result here in
    let new = c.join.new.into in
    let joined = c.join.ensures.joined in
    let own_old : m.is_own lattice old = c.loop-node.invariant.own s c.index-inflows-node.result here in
    let waiting = c.if-join.waiting in
    let kept : (n : ℕ) → IsWaiting c.loop-node.waiting n → IsWaiting waiting n = λ n h. elim c.if-join.branch [
      | then-join+in_ok-push w ↦ subst (λ x. IsWaiting x n) (sym w.waiting-is) (w.in_ok-push.ensures.kept n h)
      | else-join w ↦ subst (λ x. IsWaiting x n) (sym w.waiting-is) h
    ] in
    let risen : IsWaiting waiting s ⊎ m.is_below lattice new old = elim c.if-join.branch [
      | then-join+in_ok-push w ↦ inl (subst (λ x. IsWaiting x s) (sym w.waiting-is) w.in_ok-push.ensures.waits)
      | else-join w ↦ inr w.if-join.ensures.unchanged
    ] in
    record {
      each = length-set before s new ∙ c.loop-node.invariant.each;
      own = All-set (m.is_own lattice) before s new joined.own c.loop-node.invariant.own;
      nodes = elim c.if-join.branch [
        | then-join+in_ok-push w ↦ ap node_count w.waiting-is ∙ w.in_ok-push.ensures.nodes ∙ c.loop-node.invariant.nodes
        | else-join w ↦ ap node_count w.waiting-is ∙ c.loop-node.invariant.nodes
      ];
      kept = λ n h. kept n (c.loop-node.invariant.kept n h);
      flows = λ t y z ey ez. elim (set_cases before s t new z ez) [
        | inl k ↦
            let ey' : slice_get c.args.inflows.now s ≡ Some y = subst (λ v. slice_get c.args.inflows.now v ≡ Some y) k.0 ey in
            rw (k.0, k.1) (spread_here (m.is_own lattice) (m.is_below lattice) (g.met.L.Lattice.order lattice)
            (Contains (take i successors) s) (Contains (take (i + 1) successors) s) value y old new (IsWaiting c.loop-node.waiting s) (IsWaiting waiting s)
            c.requires.value (All-at (m.is_own lattice) c.args.inflows.now s y c.requires.inflows ey') own_old
            (front_last successors i 0 c.loop-node-test.true) (c.loop-node.invariant.flows s y old ey' there) joined (kept s) risen)
        | inr k ↦ spread_elsewhere (m.is_own lattice) (m.is_below lattice) (g.met.L.Lattice.order lattice)
            (Contains (take i successors) t) (Contains (take (i + 1) successors) t) value y z (IsWaiting c.loop-node.waiting t) (IsWaiting waiting t)
            (front_kept successors i 0 t c.loop-node-test.true)
            (λ h. elim (front_cases successors i 0 t c.loop-node-test.true h) [ inl w ↦ w | inr w ↦ absurd (k.0 (sym w)) ])
            (c.loop-node.invariant.flows t y z ey k.1) (kept t)
      ];
      room = λ height fits.
          let same : get_or before s old ≡ old = get_or_default before s old c.index-inflows-node.result here in
          let so_far = c.loop-node.invariant.room height fits in
          elim c.if-join.branch [
            | then-join+in_ok-push w ↦
                let less = room_shrinks (m.rank lattice) height before s old new here same w.if-join.ensures.rank_grows (fits new joined.own) in
                let count : waiting_count waiting ≤ waiting_count c.loop-node.waiting + 1 = rw w.waiting-is w.in_ok-push.ensures.count in
                omega arith
            | else-join w ↦
                let less = room_stays (m.rank lattice) height before s old new here same w.if-join.ensures.rank_stays in
                let count : waiting_count waiting ≡ waiting_count c.loop-node.waiting = ap waiting_count w.waiting-is in
                omega arith
          ];
    }

pub returns-clause-flows : goal.returns-clause-flows
returns-clause-flows g c = λ s y z ey ez.
    let all : take c.loop-node.node-index c.args.successors.now ≡ c.args.successors.now = take_all c.loop-node.node-index c.args.successors.now (omega arith) in
    subst (λ xs. IsSpread (g.L.Lattice.is_own c.args.lattice.now) (g.L.Lattice.is_below c.args.lattice.now) (Contains xs s) c.args.value.now y z (IsWaiting c.loop-node.waiting s)) all (c.loop-node.invariant.flows s y z ey ez)
