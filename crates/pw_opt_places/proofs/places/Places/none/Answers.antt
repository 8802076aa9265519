use Rattle.std.proofs.Common.{rules, ◌≡◌, ℕ, List, [], sym, subst, arith}
use Rattle.pw_opt_places.specs.declared.places.Place.{Place}
use Rattle.pw_opt_places.specs.Places.{ArePlaces}
use Rattle.pw_opt_places.proofs.Giving.{none_given}
use Rattle.pw_opt_places.proofs.places.Places.none.Goals as goal

no_places : ArePlaces [] [] [] 0
no_places = record { given = none_given 0; most = λ b. omega arith; least = λ n each. omega arith }

pub invariant_of-result : goal.invariant_of-result
invariant_of-result c =
    let places : c.new.result.items ≡ [] = search rules in
    let names : c.new-2.result.items ≡ [] = search rules in
    let counts : c.new-3.result.items ≡ [] = search rules in
    record {
      are = subst (λ (xs : List Place). ArePlaces xs c.new-2.result.items c.new-3.result.items 0) (sym places)
          (subst (λ (xs : List ℕ). ArePlaces [] xs c.new-3.result.items 0) (sym names)
          (subst (λ (xs : List ℕ). ArePlaces [] [] xs 0) (sym counts) no_places));
    }
