use Rattle.std.proofs.Common.{◌≡◌, ◌∙◌, ◌<◌, ℕ, List, length, get_or, ap, refl, subst, sym}
use Rattle.std.specs.Prelude.{Some, slice_get, vec_len}
use Rattle.std.proofs.lemmas.Option.{slice_get_read}
use Rattle.pw_flow.specs.Outline.{Stretch}
use Rattle.pw_opt_dead.proofs.Walking.{stretch_within, blocks_more}
use Rattle.pw_opt_dead.proofs.dead.live_blocks.Goals as goal

pub loop-block-preserved : goal.loop-block-preserved
loop-block-preserved c =
    let m = c.args.quiet.now.flow.now in
    let o = c.args.outline.now in
    let all = c.args.blocks in
    let left = c.loop-block.left in
    let shorter = c.pop.new.self in
    let new = c.loop-block.new.items in
    let b = c.in-Some.block in
    let s = c.index-blocks-place.result in
    let inv = c.loop-block.invariant in
    let popped = c.in-Some.ensures in
    let place : c.len-place.result ≡ length shorter = c.len-place.ensures in
    let is : s ≡ get_or o.blocks (length shorter) s = c.index-blocks-place.is ∙ ap (λ (n : ℕ). get_or c.blocks-in-Some.result.now n s) place ∙ ap (λ (ss : List Stretch). get_or ss (length shorter) s) c.blocks-in-Some.ensures in
    let within : length shorter < length o.blocks = stretch_within m o all left shorter new b o.blocks inv.walk popped c.requires.blocks in
    let at : slice_get o.blocks (length shorter) ≡ Some s = slice_get_read o.blocks (length o.blocks) (length shorter) s refl within is in
    record {
      walk = blocks_more m o all left shorter new c.push.new.self.items b c.in_ok-block.block inv.walk popped (c.in_ok-block.ensures.block o c.requires.fronts) c.in_ok-push.ensures.items;
      none = c.in_ok-block.ensures.none o c.requires.fronts (subst (λ (n : ℕ). slice_get o.blocks n ≡ Some s) (sym place) at);
      long = c.live_block.ensures.length ∙ inv.long;
    }
