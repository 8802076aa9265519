use Rattle.std.proofs.Common.{◌∙◌, List, sym, ap, subst}
use Rattle.pw_opt_rules.specs.declared.flat.Flat.{Flat}
use Rattle.pw_opt_rules.specs.Rewriting.{rewritten_block}
use Rattle.pw_opt_rows.specs.Joins.{HasWhatMay}
use Rattle.pw_opt_rows.specs.RowLaws.{own_may}
use Rattle.pw_opt_rewrite.proofs.blocks.rewrite_at.Goals as goal

pub renew-requires : goal.renew-requires
renew-requires g c = (c.requires.own.0.0, c.requires.own.1)

pub rewrite_block-requires-clause-may : goal.rewrite_block-requires-clause-may
rewrite_block-requires-clause-may g c =
    let may = g.R.Rewriting.may c.args.rewriting.now in
    subst (HasWhatMay may) (sym c.renew.ensures.seen) (own_may c.args.view.now.places.now may c.args.row.now c.requires.own)

pub returns : goal.returns
returns g c = c.in_ok-rewrite_block.ensures ∙ ap (λ (row : List Flat). rewritten_block (g.R.Rewriting.rewriting c.args.rewriting.now) row c.args.block.now) c.renew.ensures.seen
