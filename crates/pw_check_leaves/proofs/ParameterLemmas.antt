-- `void` as the only parameter.
use Rattle.std.proofs.Common.{◌≡◌, true, false, List, [], ◌∷◌, if◌then◌else◌, refl, ap}
use Rattle.pw_check_rules.specs.Derivations.{ParameterValue}
use Rattle.pw_check_rules.specs.Leaves.{without_void}
use Rattle.pw_check_leaves.specs.Parts.{alone_is_void}

pub void_gone : (ps : List ParameterValue) → alone_is_void ps ≡ true → without_void ps ≡ []
void_gone [] e = refl
void_gone (p ∷ []) e = ap (λ b. if b then [] else p ∷ []) e
void_gone (p ∷ q ∷ ps) e = absurd (cc)

pub others_stay : (ps : List ParameterValue) → alone_is_void ps ≡ false → without_void ps ≡ ps
others_stay [] e = refl
others_stay (p ∷ []) e = ap (λ b. if b then [] else p ∷ []) e
others_stay (p ∷ q ∷ ps) e = refl
