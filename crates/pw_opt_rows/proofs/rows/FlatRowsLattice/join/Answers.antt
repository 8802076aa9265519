use Rattle.std.proofs.Common.{List, sym, subst}
use Rattle.pw_fix.proofs.Choices.{OnTrue-then, OnFalse-then}
use Rattle.pw_opt_rules.specs.declared.flat.Flat.{Flat}
use Rattle.pw_opt_rules.specs.Rows.{IsRowBelow}
use Rattle.pw_opt_order.specs.Order.{rows_below_themselves}
use Rattle.pw_opt_rows.proofs.Joining.{not_below}
use Rattle.pw_opt_rows.proofs.Elements.{elements_join}
use Rattle.pw_opt_rows.proofs.rows.FlatRowsLattice.join.Goals as goal

pub returns-clause-joined : goal.returns-clause-joined
returns-clause-joined g c =
    let rows = c.args.self.now in
    elements_join rows.places.now (g.R.Rewriting.may rows.rewriting.now) c.args.into.now c.args.from.now c.join.new.self c.requires.into c.requires.from c.join.ensures.length c.join.ensures.own
    c.join.ensures.joins

pub returns-clause-changed : goal.returns-clause-changed
returns-clause-changed g c =
    OnTrue-then c.join.result c.join.ensures.risen (λ up. λ below. not_below c.args.into.now.0 c.join.new.self.0 c.join.ensures.length up below)

pub returns-clause-unchanged : goal.returns-clause-unchanged
returns-clause-unchanged g c =
    OnFalse-then c.join.result c.join.ensures.stays (λ same. subst (λ (row : List Flat). IsRowBelow row c.args.into.now.0) (sym same) (rows_below_themselves c.args.into.now.0))
