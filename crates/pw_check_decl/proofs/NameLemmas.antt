-- A declarator without a name has the name without bytes, which breaks the limit on names.
use Rattle.std.proofs.Common.{◌≡◌, Bool, Option, None, Some, Ok, [], ◌∷◌, ◌++◌, refl, sym, ◌∙◌}
use Rattle.pw_check_walk.specs.declared.constraints.CheckFault.{CheckFault}
use Rattle.pw_check_walk.specs.Found.{found, told}
use Rattle.pw_check_walk.specs.Walks.{bind, outcome}
use Rattle.pw_check_walk.proofs.FindingLaws.{found_among, stopped_by_found}
use Rattle.pw_check_rules.specs.Declarations.{Sort, name_rule, sort_point}
use Rattle.pw_check_decl.specs.Parts.{nobody}
use Rattle.pw_check_rules.specs.Limits.{Spot, name_within, type_within}
use Rattle.pw_check_rules.specs.SpecifierLists.{Specified}
use Rattle.pw_check_rules.specs.States.{State, records_in}
use Rattle.pw_types.specs.TypeTrees.{QType}

pub never_named : (sort : Sort) (spot : Spot) (initialised : Bool) (b : Specified) (q : QType) (s : State) (u : Unit {0})
    → outcome (name_rule sort spot nobody initialised b q s) ≡ Ok (u, s) → ⊥
unfolding name_rule bind outcome
never_named sort spot initialised b q s u e =
    let p = sort_point s sort spot nobody initialised b q ++ (name_within 0 [] ∷ type_within (records_in s) 0 q) in
    told_none (found p) (sym (stopped_by_found {A = Unit {0} × State} p (Ok (tt, s))) ∙ e)
    (found_among (sort_point s sort spot nobody initialised b q) (type_within (records_in s) 0 q) (name_within 0 []) refl)
  where
    told_none : (o : Option CheckFault) → told {A = Unit {0} × State} o (Ok (tt, s)) ≡ Ok (u, s) → (o ≡ None → ⊥) → ⊥
    told_none None h none = none refl
    told_none (Some f) h none = absurd (cc)
