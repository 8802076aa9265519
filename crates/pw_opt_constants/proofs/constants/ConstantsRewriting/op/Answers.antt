use Rattle.std.proofs.Common.{◌≡◌, ◌∙◌, ap, subst}
use Rattle.std.specs.Prelude.{MatchOption}
use Rattle.pw_flow.specs.declared.flow.Op.{Op}
use Rattle.pw_opt_rows.specs.Seeing.{seen_by}
use Rattle.pw_opt_constants.specs.Folding.{folded, folded_is}
use Rattle.pw_opt_constants.proofs.constants.ConstantsRewriting.op.Goals as goal

pub returns : goal.returns
returns c =
    let o = c.args.op.now in
    let is = ap (folded o) c.constant_of.ensures ∙ folded_is (seen_by c.args.view.now c.args.row.now) o in
    subst (λ (x : Op). MatchOption c.constant_in.result (o ≡ x) (λ made. made ≡ x)) is c.constant_in.ensures
