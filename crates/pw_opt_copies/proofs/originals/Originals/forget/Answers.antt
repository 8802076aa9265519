use Rattle.std.proofs.Common.{◌∙◌, sym}
use Rattle.pw_opt_rows.specs.Seeing.{seen_by}
use Rattle.pw_opt_copies.proofs.Forgetting.{nothing_forgotten}
use Rattle.pw_opt_copies.proofs.originals.Originals.forget.Goals as goal

pub returns-else-has-clause-seen : goal.returns-else-has-clause-seen
returns-else-has-clause-seen c =
    nothing_forgotten c.args.self.now (seen_by c.args.view.now c.args.row.now) c.args.of c.requires.may (λ t. sym (c.has.ensures t) ∙ c.if-has.false)
