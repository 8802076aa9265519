use Rattle.std.proofs.Common.{◌≡◌, ◌<◌, ◌≤◌, ◌+◌, ◌==◌, ◌∙◌, ℕ, List, drop, get_or, length, replicate, take, arith, rules, refl, sym, ap, subst}
use Rattle.std.specs.Prelude.{if◌then◌else◌, nat_lt, Some, slice_get, slice_index}
use Rattle.std.specs.List.{sum_by}
use Rattle.std.proofs.lemmas.List.{length-replicate, take_at}
use Rattle.std.proofs.lemmas.Option.{slice_get_read}
use Rattle.pw_flow.specs.Outline.{Stretch}
use Rattle.pw_live_fronts.specs.Blocks.{IsStretch}
use Rattle.pw_alloc_temps.specs.Weights.{weight_in}
use Rattle.pw_alloc_weights.proofs.Counting.{zeros, blocks_more, blocks_all, params_more, weight_at, each_at}
use Rattle.pw_alloc_weights.proofs.weights.weigh.Goals as goal

pub loop-place-init : goal.loop-place-init
loop-place-init c =
    let ws = c.in_ok-weights.weights in
    let zero_of : ws.items ≡ replicate c.temps.result 0 = c.in_ok-weights.ensures.items_if_clones_equal (λ y e. e) in
    let none : ws.items ≡ replicate c.args.f.now.temps 0 = zero_of ∙ ap (λ (n : ℕ). replicate n 0) c.temps.ensures in
    record {
      long = ws.ok.0 ∙ ap (λ (xs : List ℕ). length xs) none ∙ length-replicate c.args.f.now.temps 0;
      value = λ u. ap (λ (xs : List ℕ). slice_index xs u) none ∙ zeros c.args.f.now.temps u;
    }

pub count_block-requires : goal.count_block-requires
count_block-requires c =
    let f = c.args.f.now in
    let s = c.index-blocks-place.result in
    let ws = c.loop-place.weights in
    let there : slice_get f.blocks c.loop-place.place ≡ Some s =
    subst (λ (bs : List Stretch). slice_get bs c.loop-place.place ≡ Some s) c.blocks-blocks.ensures
    (slice_get_read c.blocks-blocks.result.now (length c.blocks-blocks.result.now) c.loop-place.place s refl c.loop-place-test.true c.index-blocks-place.is) in
    let nodes : length c.blocks-blocks.result.now ≡ length f.blocks = ap (λ (bs : List Stretch). length bs) c.blocks-blocks.ensures in
    let size : length c.deref_mut.result.now ≡ f.temps = ap (λ (xs : List ℕ). length xs) c.deref_mut.ensures.value ∙ sym ws.ok.0 ∙ c.loop-place.invariant.long in
    subst (λ (n : ℕ). IsStretch n (length c.blocks-blocks.result.now) s) (sym size)
    (subst (λ (n : ℕ). IsStretch f.temps n s) (sym nodes) (each_at (IsStretch f.temps (length f.blocks)) f.blocks c.loop-place.place s c.requires.blocks there))

pub loop-place-preserved : goal.loop-place-preserved
loop-place-preserved c =
    let f = c.args.f.now in
    let k = c.loop-place.place in
    let s = c.index-blocks-place.result in
    let lt : k < length f.blocks = subst (λ (bs : List Stretch). k < length bs) c.blocks-blocks.ensures c.loop-place-test.true in
    let is : get_or f.blocks k s ≡ s = sym (subst (λ (bs : List Stretch). s ≡ get_or bs k s) c.blocks-blocks.ensures c.index-blocks-place.is) in
    let old = c.loop-place.weights in
    let new = c.count_block.new.weights in
    let same : length c.deref_mut.result.now ≡ length old.items = ap (λ (xs : List ℕ). length xs) c.deref_mut.ensures.value in
    let size : length new ≡ old.len = omega (arith, c.count_block.ensures.length, same, old.ok.0) in
    record {
      long = first_of (search rules, omega arith);
      value = λ u. subst (λ (xs : List ℕ). slice_index xs u ≡ sum_by (weight_in u) (take (k + 1) f.blocks)) (sym (take_at new (drop (length new) old.items) old.len size))
          (blocks_more f.blocks k s u (slice_index old.items u) (slice_index new u) lt is
          (subst (λ (xs : List ℕ). slice_index new u ≡ slice_index xs u + weight_in u s) c.deref_mut.ensures.value (c.in_ok-count_block.ensures.value u)) (c.loop-place.invariant.value u));
    }

pub loop-t-init : goal.loop-t-init
loop-t-init c =
    let f = c.args.f.now in
    let le : length f.blocks ≤ c.loop-place.place = subst (λ (bs : List Stretch). length bs ≤ c.loop-place.place) c.blocks-blocks.ensures c.loop-place-test.false in
    record {
      long = c.loop-place.invariant.long;
      high = omega arith;
      value = λ u. blocks_all f.blocks c.loop-place.place u (slice_index c.loop-place.weights.items u) le (c.loop-place.invariant.value u);
    }

pub count-requires : goal.count-requires
count-requires c =
    let old = c.loop-t.weights in
    let same : length c.deref_mut-in-loop-t.result.now ≡ length old.items = ap (λ (xs : List ℕ). length xs) c.deref_mut-in-loop-t.ensures.value in
    omega (arith, c.loop-t-test.true, c.params-t-end.ensures, c.requires.params, c.loop-t.invariant.long, old.ok.0, same)

pub loop-t-preserved : goal.loop-t-preserved
loop-t-preserved c =
    let f = c.args.f.now in
    let t = c.loop-t.t in
    let old = c.loop-t.weights in
    let new = c.count.new.weights in
    let same : length c.deref_mut-in-loop-t.result.now ≡ length old.items = ap (λ (xs : List ℕ). length xs) c.deref_mut-in-loop-t.ensures.value in
    let size : length new ≡ old.len = omega (arith, c.count.ensures.length, same, old.ok.0) in
    record {
      long = first_of (search rules, omega arith);
      high = let lt = c.loop-t-test.true in let many = c.params-t-end.ensures in omega (arith, lt, many);
      value = λ u. subst (λ (xs : List ℕ). slice_index xs u ≡ sum_by (weight_in u) f.blocks + (if nat_lt u (t + 1) then 1 else 0)) (sym (take_at new (drop (length new) old.items) old.len size))
          (params_more (sum_by (weight_in u) f.blocks) u t (slice_index old.items u) (slice_index new u)
          (subst (λ (xs : List ℕ). slice_index new u ≡ slice_index xs u + (if t == u then 1 else 0)) c.deref_mut-in-loop-t.ensures.value (c.in_ok-count.ensures.value u)) (c.loop-t.invariant.value u));
    }

pub returns-clause-each : goal.returns-clause-each
returns-clause-each c = λ t lt.
    let f = c.args.f.now in
    let past : f.params ≤ c.loop-t.t = subst (λ (n : ℕ). n ≤ c.loop-t.t) c.params-t-end.ensures c.loop-t-test.false in
    weight_at f t c.loop-t.t (slice_index c.loop-t.weights.items t) past c.loop-t.invariant.high (c.loop-t.invariant.value t)
