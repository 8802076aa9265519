use Rattle.std.proofs.Common.{◌≡◌, ◌∙◌, ℕ, All, take, true, sym, subst}
use Rattle.std.proofs.lemmas.List.{take_all}
use Rattle.pw_opt_copies.specs.Originals.{is_noted, CopiesBelow}
use Rattle.pw_opt_copies.proofs.Noting.{ops_kept, all_more}
use Rattle.pw_opt_copies.proofs.originals.Originals.note_ops.Goals as goal

pub note_op-requires : goal.note_op-requires
note_op-requires c =
    let i = c.loop-op.op-index in
    let o = c.op-item.result in
    subst (λ (n : ℕ). CopiesBelow n o) (sym c.loop-op.invariant.long) (subst (CopiesBelow _) (sym c.op-item.is) (c.requires i o c.loop-op-test.true))

pub loop-op-preserved : goal.loop-op-preserved
loop-op-preserved c =
    let i = c.loop-op.op-index in
    let o = c.op-item.result in
    let ops = c.args.ops.now in
    let old = c.loop-op.self in
    let new = c.note_op.new.self in
    let inv = c.loop-op.invariant in
    let keeps = c.note_op.ensures.kept in
    record {
      long = c.note_op.ensures.length ∙ inv.long;
      keeps = λ u b e. keeps u b (inv.keeps u b e);
      noted = all_more (λ o. is_noted new o ≡ true) ops i o c.loop-op-test.true c.op-item.is (ops_kept old new keeps (take i ops) inv.noted) c.note_op.ensures.noted;
    }

pub returns : goal.returns
returns c =
    let inv = c.loop-op.invariant in
    record {
      length = inv.long;
      kept = inv.keeps;
      noted = subst (All (λ o. is_noted c.loop-op.self o ≡ true)) (take_all c.loop-op.op-index c.args.ops.now c.loop-op-test.false) inv.noted;
    }
