use Rattle.std.proofs.Common.{rules, ◌≡◌, ℕ, List, [], replicate, sym, subst}
use Rattle.pw_opt_places.specs.declared.places.Place.{Place}
use Rattle.pw_opt_places.specs.Places.{AreGiven}
use Rattle.pw_opt_places.proofs.Giving.{none_given}
use Rattle.pw_opt_places.proofs.places.Given.none.Goals as goal

pub returns-clause-are : goal.returns-clause-are
returns-clause-are c =
    let places : c.in_ok-places.places.items ≡ [] = search rules in
    let names : c.new.result.items ≡ [] = search rules in
    let counts : c.in_ok-counts.counts.items ≡ replicate c.args.blocks 0 = search rules in
    subst (λ (xs : List Place). AreGiven xs c.new.result.items c.in_ok-counts.counts.items) (sym places)
    (subst (λ (xs : List ℕ). AreGiven [] xs c.in_ok-counts.counts.items) (sym names)
    (subst (λ (xs : List ℕ). AreGiven [] [] xs) (sym counts) (none_given c.args.blocks)))
