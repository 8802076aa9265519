use Rattle.std.proofs.Common.{◌∙◌, List, ap}
use Rattle.pw_opt_places.specs.declared.places.Place.{Place}
use Rattle.pw_opt_rows.specs.Seeing.{seen}
use Rattle.pw_opt_constants.proofs.Same.{nothing_known}
use Rattle.pw_opt_constants.proofs.constants.Constants.same.Goals as goal

pub returns : goal.returns
returns c =
    let own = c.args.self.now in
    c.in_ok-same.ensures ∙ nothing_known (seen own.nowhere.places.items 0 own.nothing) c.args.op.now (ap (λ (places : List Place). seen places 0 own.nothing) own.empty)
