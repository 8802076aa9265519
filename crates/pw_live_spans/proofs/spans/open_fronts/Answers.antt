use Rattle.std.proofs.Common.{◌≡◌, ◌⊎◌, ◌+◌, ◌<◌, ◌∙◌, ℕ, All, List, arith, get_or, refl, sym, subst, take}
use Rattle.std.specs.Prelude.{Contains, vec_len, ◌↔◌}
use Rattle.pw_live_spans.specs.LivePoints.{IsLiveAtOne}
use Rattle.pw_live_spans.specs.Walking.{IsOpen, Marked}
use Rattle.pw_live_spans.proofs.Steps.{item_at, marks_more, marks_none, marks_all, opens_more, opens_none, opens_all, fronts_more, fronts_none, fronts_all, live_within}
use Rattle.pw_live_spans.proofs.spans.open_fronts.Goals as goal

pub loop-b-init : goal.loop-b-init
loop-b-init c =
    let f = c.args.f.now in
    let next = c.args.next.now in
    let w = c.args.walk.now in
    record {
      place = refl;
      count = refl;
      marked = marks_none (Marked w) (λ (u : ℕ). IsLiveAtOne f u (take 0 next)) w.place (λ u. fronts_none f next u);
      opens = opens_none (IsOpen w) (λ (u : ℕ). IsLiveAtOne f u (take 0 next)) (λ u. fronts_none f next u);
    }

pub loop-b-preserved : goal.loop-b-preserved
loop-b-preserved c =
    let f = c.args.f.now in
    let next = c.args.next.now in
    let k = c.loop-b.b-index in
    let b = get_or next k 0 in
    let live = c.in_ok-live.live.items in
    let old = c.args.walk.now in
    let cur = c.loop-b.walk in
    let new = c.open_all.new.walk in
    let is = item_at next k 0 c.loop-b-test.true in
    let more = λ (u : ℕ). fronts_more f c.args.fronts.now next live k b u c.requires.fronts c.loop-b-test.true is (c.requires.next k 0 c.loop-b-test.true) (c.in_ok-live.ensures u) in
    let marked = subst (λ (ts : List ℕ). (u q : ℕ) → Marked new u q ↔ (Marked cur u q ⊎ (Contains ts u × (q ≡ cur.place)))) c.deref.ensures.value c.open_all.ensures.marked in
    let opens = subst (λ (ts : List ℕ). (u : ℕ) → IsOpen new u ↔ (IsOpen cur u ⊎ Contains ts u)) c.deref.ensures.value c.open_all.ensures.opens in
    record {
      place = c.open_all.ensures.place ∙ c.loop-b.invariant.place;
      count = c.open_all.ensures.count ∙ c.loop-b.invariant.count;
      marked = marks_more (Marked new) (Marked cur) (Marked old) (Contains live) (λ (u : ℕ). IsLiveAtOne f u (take k next)) (λ (u : ℕ). IsLiveAtOne f u (take (k + 1) next)) old.place cur.place c.loop-b.invariant.place
          more marked c.loop-b.invariant.marked;
      opens = opens_more (IsOpen new) (IsOpen cur) (IsOpen old) (Contains live) (λ (u : ℕ). IsLiveAtOne f u (take k next)) (λ (u : ℕ). IsLiveAtOne f u (take (k + 1) next)) more opens c.loop-b.invariant.opens;
    }

pub live-requires : goal.live-requires
live-requires c = let lt = c.requires.next c.loop-b.b-index 0 c.loop-b-test.true in let rows = c.requires.fronts.blocks in omega (arith, lt, rows)

pub open_all-requires-clause-temps : goal.open_all-requires-clause-temps
open_all-requires-clause-temps c =
    let count = c.loop-b.invariant.count ∙ c.requires.count in
    subst (λ (ts : List ℕ). All (λ t. t < vec_len c.loop-b.walk.ends) ts) (sym c.deref.ensures.value)
    (live_within c.args.f.now c.args.fronts.now c.in_ok-live.live.items (get_or c.args.next.now c.loop-b.b-index 0) (vec_len c.loop-b.walk.ends) c.requires.fronts count c.in_ok-live.ensures)

pub returns-clause-marked : goal.returns-clause-marked
returns-clause-marked c =
    let f = c.args.f.now in
    let next = c.args.next.now in
    let k = c.loop-b.b-index in
    marks_all (Marked c.loop-b.walk) (Marked c.args.walk.now) (λ (u : ℕ). IsLiveAtOne f u (take k next)) (λ (u : ℕ). IsLiveAtOne f u next) c.args.walk.now.place (λ u. fronts_all f next k u c.loop-b-test.false) c.loop-b.invariant.marked

pub returns-clause-opens : goal.returns-clause-opens
returns-clause-opens c =
    let f = c.args.f.now in
    let next = c.args.next.now in
    let k = c.loop-b.b-index in
    opens_all (IsOpen c.loop-b.walk) (IsOpen c.args.walk.now) (λ (u : ℕ). IsLiveAtOne f u (take k next)) (λ (u : ℕ). IsLiveAtOne f u next) (λ u. fronts_all f next k u c.loop-b-test.false) c.loop-b.invariant.opens
