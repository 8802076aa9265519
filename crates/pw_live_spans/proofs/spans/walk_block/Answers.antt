use Rattle.std.proofs.Common.{◌≡◌, ◌≤◌, ◌<◌, ◌-◌, ◌+◌, ◌∙◌, ℕ, suc, List, All, ap, arith, length, refl, subst, sym, vec_len}
use Rattle.std.specs.Prelude.{Contains, Some, slice_get, ◌↔◌}
use Rattle.std.proofs.lemmas.Option.{same_Some, slice_get_read}
use Rattle.pw_flow.specs.Outline.{Act, Stretch}
use Rattle.pw_live_spans.specs.LivePoints.{StandsInside}
use Rattle.pw_live_spans.specs.Walking.{IsOpen}
use Rattle.pw_live_spans.proofs.Walks.{next_block, end_step, act_step, front_step}
use Rattle.pw_live_spans.proofs.Steps.{stretch_at, act_at, front_lives, live_within}
use Rattle.pw_live_spans.proofs.spans.walk_block.Goals as goal

pub walk_end-requires : goal.walk_end-requires
walk_end-requires c =
    let f = c.args.f.now in
    let b = c.args.b in
    let s = c.index-blocks-b.result in
    let there : slice_get f.blocks b ≡ Some s =
    subst (λ (bs : List Stretch). slice_get bs b ≡ Some s) c.blocks-blocks.ensures (slice_get_read c.blocks-blocks.result.now (length c.blocks-blocks.result.now) b s refl (subst (λ (bs : List Stretch). b < length bs) (sym c.blocks-blocks.ensures) c.requires.block) c.index-blocks-b.is) in
    let before = c.requires.stands.place in
    let next = next_block f.blocks b s there in
    record {
      fronts = c.requires.fronts;
      count = c.requires.count;
      block = stretch_at f c.requires.outline b s there;
      shut = c.requires.stands.shut;
      place = omega (arith, before, next);
    }

pub loop-done-init : goal.loop-done-init
loop-done-init c =
    let f = c.args.f.now in
    let b = c.args.b in
    let s = c.index-blocks-b.result in
    let there : slice_get f.blocks b ≡ Some s =
    subst (λ (bs : List Stretch). slice_get bs b ≡ Some s) c.blocks-blocks.ensures (slice_get_read c.blocks-blocks.result.now (length c.blocks-blocks.result.now) b s refl (subst (λ (bs : List Stretch). b < length bs) (sym c.blocks-blocks.ensures) c.requires.block) c.index-blocks-b.is) in
    let whole : length s.acts ≡ length s.acts - 0 = omega arith in
    record {
      count = c.walk_end.ensures.count;
      stands = λ x at. subst (λ (y : Stretch). StandsInside f b y (length y.acts - 0) c.walk_end.new.walk) (same_Some s x (sym there ∙ at))
          (subst (λ (k : ℕ). StandsInside f b s k c.walk_end.new.walk) whole
          (end_step f b s c.args.walk.now c.walk_end.new.walk there c.in_ok-walk_end.ensures.place c.in_ok-walk_end.ensures.marked c.in_ok-walk_end.ensures.opens c.requires.stands));
    }

pub walk_act-requires : goal.walk_act-requires
walk_act-requires c =
    let f = c.args.f.now in
    let b = c.args.b in
    let s = c.index-blocks-b.result in
    let there : slice_get f.blocks b ≡ Some s =
    subst (λ (bs : List Stretch). slice_get bs b ≡ Some s) c.blocks-blocks.ensures (slice_get_read c.blocks-blocks.result.now (length c.blocks-blocks.result.now) b s refl (subst (λ (bs : List Stretch). b < length bs) (sym c.blocks-blocks.ensures) c.requires.block) c.index-blocks-b.is) in
    let a = c.index-acts-place.result in
    let lt : c.loop-done.done < length s.acts = subst (λ (xs : List Act). c.loop-done.done < length xs) c.acts-acts.ensures c.loop-done-test.true in
    let size : length c.acts-acts.result.now ≡ length s.acts = ap (λ (xs : List Act). length xs) c.acts-acts.ensures in
    let is : slice_get s.acts (length c.acts-acts.result.now - 1 - c.loop-done.done) ≡ Some a =
    subst (λ (xs : List Act). slice_get xs (length c.acts-acts.result.now - 1 - c.loop-done.done) ≡ Some a) c.acts-acts.ensures
    (slice_get_read c.acts-acts.result.now (length c.acts-acts.result.now) (length c.acts-acts.result.now - 1 - c.loop-done.done) a refl (omega (arith, lt, size)) c.index-acts-place.is) in
    let place = (c.loop-done.invariant.stands s there).place in
    record {
      act = act_at f s (vec_len c.loop-done.walk.ends) (length c.acts-acts.result.now - 1 - c.loop-done.done) a (stretch_at f c.requires.outline b s there) (c.loop-done.invariant.count ∙ c.requires.count) is;
      place = omega (arith, place, lt);
    }

pub loop-done-preserved : goal.loop-done-preserved
loop-done-preserved c =
    let f = c.args.f.now in
    let b = c.args.b in
    let s = c.index-blocks-b.result in
    let a = c.index-acts-place.result in
    let done = c.loop-done.done in
    let there : slice_get f.blocks b ≡ Some s =
    subst (λ (bs : List Stretch). slice_get bs b ≡ Some s) c.blocks-blocks.ensures (slice_get_read c.blocks-blocks.result.now (length c.blocks-blocks.result.now) b s refl (subst (λ (bs : List Stretch). b < length bs) (sym c.blocks-blocks.ensures) c.requires.block) c.index-blocks-b.is) in
    let lt : done < length s.acts = subst (λ (xs : List Act). done < length xs) c.acts-acts.ensures c.loop-done-test.true in
    let size : length c.acts-acts.result.now ≡ length s.acts = ap (λ (xs : List Act). length xs) c.acts-acts.ensures in
    let k = length s.acts - 1 - done in
    let same : length c.acts-acts.result.now - 1 - done ≡ k = ap (λ (n : ℕ). n - 1 - done) size in
    let is : slice_get s.acts k ≡ Some a =
    subst (λ (n : ℕ). slice_get s.acts n ≡ Some a) same (subst (λ (xs : List Act). slice_get xs (length c.acts-acts.result.now - 1 - done) ≡ Some a) c.acts-acts.ensures
    (slice_get_read c.acts-acts.result.now (length c.acts-acts.result.now) (length c.acts-acts.result.now - 1 - done) a refl (omega (arith, lt, size)) c.index-acts-place.is)) in
    let was : length s.acts - done ≡ suc k = omega (arith, lt) in
    let now : k ≡ length s.acts - (done + 1) = omega (arith, lt) in
    record {
      count = c.walk_act.ensures.count ∙ c.loop-done.invariant.count;
      stands = λ x at. subst (λ (y : Stretch). StandsInside f b y (length y.acts - (done + 1)) c.walk_act.new.walk) (same_Some s x (sym there ∙ at))
          (subst (λ (n : ℕ). StandsInside f b s n c.walk_act.new.walk) now
          (act_step f b s k a c.loop-done.walk c.walk_act.new.walk is c.in_ok-walk_act.ensures.place c.in_ok-walk_act.ensures.marked c.in_ok-walk_act.ensures.opens
          (subst (λ (n : ℕ). StandsInside f b s n c.loop-done.walk) was (c.loop-done.invariant.stands s there))));
    }

pub close_all-requires : goal.close_all-requires
close_all-requires c =
    let count = c.loop-done.invariant.count ∙ c.requires.count in
    subst (λ (ts : List ℕ). All (λ t. t < vec_len c.loop-done.walk.ends) ts) (sym c.deref.ensures.value)
    (live_within c.args.f.now c.args.fronts.now c.in_ok-live.live.items c.args.b (vec_len c.loop-done.walk.ends) c.requires.fronts count c.in_ok-live.ensures)

pub returns-clause-stands : goal.returns-clause-stands
returns-clause-stands c =
    let f = c.args.f.now in
    let b = c.args.b in
    let s = c.index-blocks-b.result in
    let there : slice_get f.blocks b ≡ Some s =
    subst (λ (bs : List Stretch). slice_get bs b ≡ Some s) c.blocks-blocks.ensures (slice_get_read c.blocks-blocks.result.now (length c.blocks-blocks.result.now) b s refl (subst (λ (bs : List Stretch). b < length bs) (sym c.blocks-blocks.ensures) c.requires.block) c.index-blocks-b.is) in
    let live = c.in_ok-live.live.items in
    let le : length s.acts ≤ c.loop-done.done = subst (λ (xs : List Act). length xs ≤ c.loop-done.done) c.acts-acts.ensures c.loop-done-test.false in
    let none : length s.acts - c.loop-done.done ≡ 0 = omega (arith, le) in
    let inside = subst (λ (n : ℕ). StandsInside f b s n c.loop-done.walk) none (c.loop-done.invariant.stands s there) in
    let opens = subst (λ (ts : List ℕ). (u : ℕ) → IsOpen c.close_all.new.walk u ↔ (IsOpen c.loop-done.walk u × ¬ Contains ts u)) c.deref.ensures.value c.in_ok-close_all.ensures.opens in
    front_step f b s live c.loop-done.walk c.close_all.new.walk there c.close_all.ensures.place c.in_ok-close_all.ensures.marked opens
    (λ u. front_lives f c.args.fronts.now live b u s c.requires.fronts c.requires.block (c.longer_paths_add_nothing.ensures.point f u b s there) (c.in_ok-live.ensures u))
    inside
