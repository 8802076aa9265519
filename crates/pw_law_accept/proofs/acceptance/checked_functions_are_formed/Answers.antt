use Rattle.pw_files.proofs.Standing.{has_by}
use Rattle.pw_law_source.specs.Accepting.{IsFormed}
use Rattle.pw_law_accept.proofs.Modules.{all_has}
use Rattle.pw_law_accept.proofs.acceptance.checked_functions_are_formed.Goals as goal

pub returns : goal.returns
returns g = λ p checked m f there here.
    let is = checked m there in
    all_has IsFormed m.tree.functions f (g.accepted_functions_are_formed.ensures is.syntax m.tree is.is) (has_by f m.tree.functions here)
