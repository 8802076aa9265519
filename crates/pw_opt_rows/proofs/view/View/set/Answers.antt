use Rattle.std.proofs.Common.{◌∙◌, ap}
use Rattle.pw_opt_places.specs.declared.places.Place.{Place}
use Rattle.pw_opt_rows.specs.Places.{with_place}
use Rattle.pw_opt_rows.specs.Seeing.{seen}
use Rattle.pw_opt_rows.proofs.Viewing.{seen_set, row_set}
use Rattle.pw_opt_rows.proofs.view.View.set.Goals as goal

pub returns-clause-seen : goal.returns-clause-seen
returns-clause-seen c =
    let v = c.args.self.now in
    let ps = v.places.now in
    let row = c.args.row.now in
    ap (seen ps.places.items v.block) (c.set.ensures ∙ ap (λ (p : Place). with_place row p c.args.to) c.at.ensures) ∙ seen_set ps v.block row c.args.t c.args.to c.requires.row c.requires.home

pub returns-clause-row : goal.returns-clause-row
returns-clause-row c = row_set c.args.self.now.places.now c.args.row.now c.set.new.self c.at.result c.args.to c.set.ensures c.requires.row
