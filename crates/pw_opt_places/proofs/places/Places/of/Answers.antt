use Rattle.std.proofs.Common.{◌∙◌, ◌≤◌, ℕ, All, List, length, sym, subst}
use Rattle.pw_opt_places.specs.declared.homes.Home.{Home}
use Rattle.pw_opt_places.specs.Giving.{IsHomeBelow}
use Rattle.pw_opt_places.proofs.Giving.{counts_few, greatest_few, homes_below, places_of_function}
use Rattle.pw_opt_places.proofs.places.Places.of.Goals as goal

pub give_all-requires-clause-homes : goal.give_all-requires-clause-homes
give_all-requires-clause-homes c =
    let f = c.args.f.now in
    subst (λ n. All (IsHomeBelow n) c.in_ok-homes.homes) (sym (c.in_ok-given.ensures.blocks ∙ c.len.ensures))
    (subst (λ (homes : List Home). All (IsHomeBelow (length f.blocks)) homes) (sym c.in_ok-homes.ensures) (homes_below f))

pub returns : goal.returns
returns c = places_of_function c.args.f.now c.in_ok-homes.homes c.give_all.new.self.places.items c.in_ok-homes.ensures c.in_ok-give_all.ensures.places

pub invariant_of-result : goal.invariant_of-result
invariant_of-result c =
    let g = c.give_all.new.self in
    let most = subst (λ (counts : List ℕ). All (λ n. n ≤ c.greatest-own.result) counts) c.deref.ensures.value c.greatest-own.ensures.bound in
    let least = subst (λ (counts : List ℕ). (n : ℕ) → All (λ m. m ≤ n) counts → c.greatest-own.result ≤ n) c.deref.ensures.value c.greatest-own.ensures.least in
    record { are = record { given = c.in_ok-give_all.ensures.are; most = greatest_few g.counts.items c.greatest-own.result most; least = λ n each. least n (counts_few g.counts.items n each) } }
