-- Of operations that were found the one with the least number.
use Rattle.std.proofs.Common.{◌≡◌, refl, Bool, true, false, List, [], ◌∷◌, ◌++◌, Option, None, Some, ap, arith}
use Rattle.std.specs.Prelude.{if◌then◌else◌}
use Rattle.std.proofs.lemmas.Grind.{common_steps}
use Rattle.pw_cmean.specs.declared.undefined.Undef.{Undef}
use Rattle.pw_cmean.specs.Undefined.{Finding, lesser, least}
use Rattle.pw_interp_state.specs.Answers.{lesser_found}

lesser_twice : (a b c : Undef) → lesser a (Some (lesser b (Some c))) ≡ lesser (lesser a (Some b)) (Some c)
lesser_twice a b c = grind (arith, common_steps)

lesser_both : (a : Undef) (x y : Option Undef) → lesser a (lesser_found x y) ≡ lesser (lesser a x) y
lesser_both a None y = refl
lesser_both a (Some b) None = refl
lesser_both a (Some b) (Some c) = lesser_twice a b c

one_more : (holds : Bool) (a : Undef) (both x y : Option Undef) → both ≡ lesser_found x y
    → (if holds then Some (lesser a both) else both) ≡ lesser_found (if holds then Some (lesser a x) else x) y
one_more true a both x y e = rw e (ap Some (lesser_both a x y))
one_more false a both x y e = e

pub least_both : (fs gs : List Finding) → least (fs ++ gs) ≡ lesser_found (least fs) (least gs)
least_both [] gs = refl
least_both (f ∷ fs) gs = one_more f.holds f.operation (least (fs ++ gs)) (least fs) (least gs) (least_both fs gs)
