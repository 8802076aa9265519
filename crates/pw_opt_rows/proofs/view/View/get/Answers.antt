use Rattle.std.proofs.Common.{◌∙◌, sym, ap}
use Rattle.pw_opt_rows.specs.Places.{at_place}
use Rattle.pw_opt_rows.specs.RowLaws.{known_seen}
use Rattle.pw_opt_rows.proofs.view.View.get.Goals as goal

pub returns : goal.returns
returns c =
    let v = c.args.self.now in
    let row = c.args.row.now in
    c.get.ensures ∙ ap (at_place v.block row) c.at.ensures ∙ sym (known_seen v.places.now.places.items v.block row c.args.t)
