-- What the setting of a linked program says of a function that is found by its name.
use Rattle.std.specs.Prelude.{ℕ, ◌≡◌, ◌+◌, ◌*◌, List, ◌∷◌, ◌++◌}
use Rattle.std.proofs.Common.{ap, refl, ◌∙◌}
use Rattle.pw_object.specs.declared.object.Object.{Object}
use Rattle.pw_alloc.specs.declared.located.Located.{Located}
use Rattle.pw_link.specs.Linking.{linked}
use Rattle.pw_select.specs.Selection.{selected}
use Rattle.pw_delay.specs.declared.items.Item.{Item}
use Rattle.pw_delay.specs.Placement.{sizes, mark_at}
use Rattle.pw_run_languages.specs.LineRun.{turns, IsCalling}
use Rattle.pw_run_languages.specs.CodeStands.{is_long}
use Rattle.pw_run_languages.specs.SelectionLaws.{arranged}
use Rattle.pw_run_languages.specs.LinkingLaws.{address_of}
use Rattle.pw_law_linked.specs.Settings.{behind_in, of_function, behind_of, mark_of, long_of}
use Rattle.pw_law_linked.specs.Standing.{IsFoundAmong}
use Rattle.pw_law_linked.proofs.Behind.{behind_is}

function_is : (functions : List Located) (l : Located) (other : ℕ) (f : Located → ℕ) → IsFoundAmong functions l → of_function functions l.body.name other f ≡ f l
function_is functions l other f e = rw e refl

pub long_is : (functions : List Located) (l : Located) → IsFoundAmong functions l → long_of functions l.body.name ≡ is_long (selected l)
long_is functions l e = rw e refl

pub mark_is : (functions : List Located) (objects : List Object) (stack : ℕ) (l : Located) (b : ℕ) → IsFoundAmong functions l
    → mark_of functions objects stack l.body.name b ≡ address_of (linked objects stack) l.body.name + 4 * mark_at (is_long (selected l)) 0 (arranged (selected l)) b
mark_is functions objects stack l b e =
    function_is functions l 0 (λ g. address_of (linked objects stack) l.body.name + 4 * mark_at (is_long (selected g)) 0 (arranged (selected g)) b) e

pub returns_behind : (functions : List Located) (objects : List Object) (stack : ℕ) (l : Located) (before rest : List Item) (item : Item) → IsFoundAmong functions l → IsCalling item
    → arranged (selected l) ≡ before ++ item ∷ rest
    → behind_of functions objects stack l.body.name (turns rest) ≡ address_of (linked objects stack) l.body.name + 4 * sizes (is_long (selected l)) before + 8
returns_behind functions objects stack l before rest item e calling parts =
    let own = address_of (linked objects stack) l.body.name in
    let long = is_long (selected l) in
    function_is functions l 0 (λ g. behind_in (is_long (selected g)) own (arranged (selected g)) (turns rest)) e
    ∙ (ap (λ (items : List Item). behind_in long own items (turns rest)) parts ∙ behind_is long own before rest item calling)
