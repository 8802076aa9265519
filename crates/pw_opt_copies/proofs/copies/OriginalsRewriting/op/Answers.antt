use Rattle.std.proofs.Common.{◌≡◌, subst}
use Rattle.std.specs.Bool.{OnFalse}
use Rattle.pw_opt_rules.specs.Copies.{original, with_operands}
use Rattle.pw_opt_rows.specs.Seeing.{seen_by}
use Rattle.pw_opt_copies.proofs.copies.OriginalsRewriting.op.Goals as goal

pub returns : goal.returns
returns c =
    let o = c.args.op.now in
    subst (λ b. OnFalse b (o ≡ with_operands (original (seen_by c.args.view.now c.args.row.now)) o)) c.if-have_originals.false c.have_originals.ensures
