use Rattle.std.proofs.Common.{◌≡◌, ◌<◌, ◌≤◌, List, get_or, length, map, sym, ap, subst, ◌∙◌}
use Rattle.std.specs.List.{flat_map}
use Rattle.std.proofs.lemmas.List.{take_all}
use Rattle.pw_flow.specs.Outline.{Stretch}
use Rattle.pw_live.specs.Points.{points_in}
use Rattle.pw_live_held.specs.Makers.{calls}
use Rattle.pw_live_held.proofs.Pointing.{points_more}
use Rattle.pw_live_held.proofs.points.find_calls.Goals as goal

pub loop-block-preserved : goal.loop-block-preserved
loop-block-preserved c =
    let blocks = c.args.f.now.blocks in
    let k = c.loop-block.block-index in
    let s = c.block-item.result in
    let lt : k < length blocks = subst (λ (xs : List Stretch). k < length xs) c.blocks-block-items.ensures c.loop-block-test.true in
    let is : get_or blocks k s ≡ s = sym (subst (λ (xs : List Stretch). s ≡ get_or xs k s) c.blocks-block-items.ensures c.block-item.is) in
    points_more calls blocks k s c.loop-block.all.items c.add_calls.new.all.items lt is c.in_ok-add_calls.ensures c.loop-block.invariant

pub returns : goal.returns
returns c =
    let blocks = c.args.f.now.blocks in
    let k = c.loop-block.block-index in
    let le : length blocks ≤ k = subst (λ (xs : List Stretch). length xs ≤ k) c.blocks-block-items.ensures c.loop-block-test.false in
    c.loop-block.invariant ∙ ap (λ (ss : List Stretch). map calls (flat_map points_in ss)) (take_all k blocks le)
