use Rattle.std.proofs.Common.{◌∙◌, ℕ, replicate, ap}
use Rattle.pw_opt_rules.specs.declared.flat.Flat.TheVariants.{Bottom}
use Rattle.pw_opt_rows.proofs.Elements.{element_least}
use Rattle.pw_opt_rows.proofs.rows.FlatRowsLattice.bottom.Goals as goal

pub returns : goal.returns
returns g c =
    let rows = c.args.self.now in
    record {
      least = element_least rows.places.now (g.R.Rewriting.may rows.rewriting.now) c.in_ok-row.row (c.in_ok-row.ensures.shared ∙ ap (λ (n : ℕ). replicate n Bottom) c.shared.ensures)
          c.in_ok-row.ensures.own;
    }
