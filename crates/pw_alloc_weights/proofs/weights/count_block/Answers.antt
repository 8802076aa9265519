use Rattle.std.proofs.Common.{◌≡◌, ◌<◌, ◌≤◌, ◌+◌, ◌*◌, ◌^◌, ◌==◌, ◌∙◌, ℕ, List, All, get_or, length, min, refl, sym, ap, subst}
use Rattle.std.specs.Prelude.{slice_index}
use Rattle.std.specs.List.{count_by}
use Rattle.std.proofs.lemmas.List.Elements.{All-from_recursion}
use Rattle.std.proofs.lemmas.Option.{slice_get_read}
use Rattle.pw_flow.specs.Outline.{Act}
use Rattle.pw_live_fronts.specs.Blocks.{IsAct}
use Rattle.pw_alloc_temps.specs.Weights.{counted_in, depth_limit}
use Rattle.pw_alloc_weights.proofs.Counting.{count_none, sum_more, block_all, each_at}
use Rattle.pw_alloc_weights.proofs.weights.count_block.Goals as goal

pub loop-act-init : goal.loop-act-init
loop-act-init c = record { long = refl; value = λ u. count_none c.factor-factor.result (slice_index c.args.weights.now u) }

pub count_act-requires : goal.count_act-requires
count_act-requires c =
    let acts = c.args.block.now.acts in
    let k = c.loop-act.act-index in
    let a = c.act-item.result in
    let lt : k < length acts = subst (λ (xs : List Act). k < length xs) c.acts-act-items.ensures c.loop-act-test.true in
    let is : a ≡ get_or acts k a = subst (λ (xs : List Act). a ≡ get_or xs k a) c.acts-act-items.ensures c.act-item.is in
    subst (λ (n : ℕ). IsAct n a) (sym c.loop-act.invariant.long)
    (each_at (IsAct (length c.args.weights.now)) acts k a c.requires.acts (slice_get_read acts (length acts) k a refl lt is))

pub loop-act-preserved : goal.loop-act-preserved
loop-act-preserved c =
    let acts = c.args.block.now.acts in
    let k = c.loop-act.act-index in
    let a = c.act-item.result in
    let lt : k < length acts = subst (λ (xs : List Act). k < length xs) c.acts-act-items.ensures c.loop-act-test.true in
    let is : get_or acts k a ≡ a = sym (subst (λ (xs : List Act). a ≡ get_or xs k a) c.acts-act-items.ensures c.act-item.is) in
    record {
      long = c.count_act.ensures.length ∙ c.loop-act.invariant.long;
      value = λ u. sum_more (counted_in u) acts k a c.factor-factor.result (slice_index c.args.weights.now u) (slice_index c.loop-act.weights u) (slice_index c.count_act.new.weights u) lt is
          (c.in_ok-count_act.ensures.value u) (c.loop-act.invariant.value u);
    }

pub count_uses-requires : goal.count_uses-requires
count_uses-requires c =
    let n = length c.args.weights.now in
    subst (λ (m : ℕ). All (λ t. t < m) c.uses.result.now) (sym c.loop-act.invariant.long)
    (subst (λ (ts : List ℕ). All (λ t. t < n) ts) (sym c.uses.ensures) (All-from_recursion (λ t. t < n) c.args.block.now.uses c.requires.uses))

pub returns-clause-length : goal.returns-clause-length
returns-clause-length c = c.count_uses.ensures.length ∙ c.loop-act.invariant.long

pub returns-clause-value : goal.returns-clause-value
returns-clause-value c = λ u.
    let s = c.args.block.now in
    let factor = c.factor-factor.result in
    let cur = slice_index c.loop-act.weights u in
    let new = slice_index c.count_uses.new.weights u in
    let le : length s.acts ≤ c.loop-act.act-index = subst (λ (xs : List Act). length xs ≤ c.loop-act.act-index) c.acts-act-items.ensures c.loop-act-test.false in
    let used = subst (λ (ts : List ℕ). new ≡ cur + factor * count_by (λ t. t == u) ts) c.uses.ensures (c.in_ok-count_uses.ensures.value u) in
    block_all s c.loop-act.act-index u factor (slice_index c.args.weights.now u) cur new le (c.factor-factor.ensures ∙ ap (λ (d : ℕ). 8 ^ (min depth_limit d)) c.depth.ensures) (c.loop-act.invariant.value u) used
