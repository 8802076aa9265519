use Rattle.std.proofs.Common.{◌≡◌, ◌≤◌, ◌<◌, ◌-◌, ◌+◌, ◌∙◌, ℕ, List, ap, arith, length, subst}
use Rattle.pw_flow.specs.Outline.{Stretch}
use Rattle.pw_live_spans.specs.LivePoints.{points_before, StandsBefore}
use Rattle.pw_live_spans.proofs.Walks.{at_the_end, at_the_start}
use Rattle.pw_live_spans.proofs.spans.find_spans.Goals as goal

pub loop-done-init : goal.loop-done-init
loop-done-init c =
    let f = c.args.f.now in
    let w = c.in_ok-walk.walk in
    let counted = c.in_ok-points.ensures ∙ ap (λ (bs : List Stretch). points_before bs (length bs)) c.blocks-blocks.ensures in
    let whole : length f.blocks ≡ length f.blocks - 0 = omega arith in
    record {
      count = c.in_ok-walk.ensures.count ∙ c.temps.ensures;
      stands = subst (λ (b : ℕ). StandsBefore f b w) whole (at_the_end f w (c.in_ok-walk.ensures.place ∙ counted) c.in_ok-walk.ensures.none c.in_ok-walk.ensures.shut);
    }

pub walk_block-requires : goal.walk_block-requires
walk_block-requires c =
    let f = c.args.f.now in
    let nodes : length c.blocks-blocks.result.now ≡ length f.blocks = ap (λ (bs : List Stretch). length bs) c.blocks-blocks.ensures in
    let done = c.loop-done.done in
    let lt : done < length f.blocks = subst (λ (bs : List Stretch). done < length bs) c.blocks-blocks.ensures c.loop-done-test.true in
    let next : length f.blocks - done ≡ length c.blocks-blocks.result.now - 1 - done + 1 = omega (arith, lt, nodes) in
    record {
      outline = c.requires.outline;
      fronts = c.requires.fronts;
      count = c.loop-done.invariant.count;
      block = omega (arith, lt, nodes);
      stands = subst (λ (b : ℕ). StandsBefore f b c.loop-done.walk) next c.loop-done.invariant.stands;
    }

pub loop-done-preserved : goal.loop-done-preserved
loop-done-preserved c =
    let f = c.args.f.now in
    let nodes : length c.blocks-blocks.result.now ≡ length f.blocks = ap (λ (bs : List Stretch). length bs) c.blocks-blocks.ensures in
    let done = c.loop-done.done in
    let lt : done < length f.blocks = subst (λ (bs : List Stretch). done < length bs) c.blocks-blocks.ensures c.loop-done-test.true in
    let now : length c.blocks-blocks.result.now - 1 - done ≡ length f.blocks - (done + 1) = omega (arith, lt, nodes) in
    record {
      count = c.walk_block.ensures.count ∙ c.loop-done.invariant.count;
      stands = subst (λ (b : ℕ). StandsBefore f b c.walk_block.new.walk) now c.in_ok-walk_block.ensures.stands;
    }

pub returns : goal.returns
returns c =
    let f = c.args.f.now in
    let w = c.loop-done.walk in
    let le : length f.blocks ≤ c.loop-done.done = subst (λ (bs : List Stretch). length bs ≤ c.loop-done.done) c.blocks-blocks.ensures c.loop-done-test.false in
    let none : length f.blocks - c.loop-done.done ≡ 0 = omega (arith, le) in
    let stands = subst (λ (b : ℕ). StandsBefore f b w) none c.loop-done.invariant.stands in
    record {
      count = w.same ∙ c.loop-done.invariant.count;
      each = λ t q spans is. at_the_start f w stands t q spans is;
    }
