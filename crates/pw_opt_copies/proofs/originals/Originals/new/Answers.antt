use Rattle.std.proofs.Common.{◌≡◌, ◌∙◌, ◌<◌, ◌≤◌, ℕ, List, All, length, get_or, take, true, sym, ap, subst}
use Rattle.std.proofs.lemmas.List.{take_all}
use Rattle.pw_flow.specs.declared.flow.Block.{Block}
use Rattle.pw_opt_rows.specs.Outflows.{AreAbout}
use Rattle.pw_opt_copies.specs.Originals.{is_noted, CopiesBelow}
use Rattle.pw_opt_copies.proofs.Noting.{blocks_kept, all_more, ops_at}
use Rattle.pw_opt_copies.proofs.originals.Originals.new.Goals as goal

pub note_ops-requires : goal.note_ops-requires
note_ops-requires c =
    let f = c.args.f.now in
    let ops = ops_at (CopiesBelow f.temps) c.as_slice-block-items.result.now f.blocks c.loop-block.block-index c.block-item.result c.as_slice-block-items.ensures c.loop-block-test.true c.block-item.is c.requires in
    subst (λ (n : ℕ). All (CopiesBelow n) c.as_slice.result.now) (sym c.loop-block.invariant.long) (subst (All (CopiesBelow f.temps)) (sym c.as_slice.ensures) ops)

pub loop-block-preserved : goal.loop-block-preserved
loop-block-preserved c =
    let f = c.args.f.now in
    let i = c.loop-block.block-index in
    let b = c.block-item.result in
    let old = c.loop-block.originals in
    let new = c.note_ops.new.self in
    let inv = c.loop-block.invariant in
    let facts = c.note_ops.ensures in
    let lt : i < length f.blocks = subst (λ (bs : List Block). i < length bs) c.as_slice-block-items.ensures c.loop-block-test.true in
    let is : b ≡ get_or f.blocks i b = c.block-item.is ∙ ap (λ (bs : List Block). get_or bs i b) c.as_slice-block-items.ensures in
    record {
      long = c.note_ops.ensures.length ∙ inv.long;
      about = all_more (AreAbout (is_noted new)) f.blocks i b lt is (blocks_kept old new facts.kept (take i f.blocks) inv.about) (subst (All (λ o. is_noted new o ≡ true)) c.as_slice.ensures facts.noted);
    }

pub returns : goal.returns
returns c =
    let f = c.args.f.now in
    let i = c.loop-block.block-index in
    let le : length f.blocks ≤ i = subst (λ (bs : List Block). length bs ≤ i) c.as_slice-block-items.ensures c.loop-block-test.false in
    record {
      temps = c.loop-block.invariant.long;
      about = subst (All (AreAbout (is_noted c.loop-block.originals))) (take_all i f.blocks le) c.loop-block.invariant.about;
    }
