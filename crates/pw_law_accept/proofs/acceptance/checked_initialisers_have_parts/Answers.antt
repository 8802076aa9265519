use Rattle.pw_files.proofs.Standing.{has_by}
use Rattle.pw_law_accept.proofs.Modules.{all_has}
use Rattle.std.specs.Prelude.{◌≡◌}
use Rattle.pw_law_lower.specs.Parts.{partless}
use Rattle.pw_law_accept.proofs.acceptance.checked_initialisers_have_parts.Goals as goal

pub returns : goal.returns
returns g = λ p checked m f there here.
    let is = checked m there in
    all_has (λ f. partless f.body ≡ 0) m.tree.functions f (g.accepted_initialisers_have_parts.ensures is.syntax m.tree is.parsed.well_formed is.is) (has_by f m.tree.functions here)
