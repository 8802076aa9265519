use Rattle.std.proofs.Common.{◌≡◌, ◌∙◌, ◌+◌, ◌++◌, ℕ, List, [], ◌∷◌, sym, ap, subst, arith}
use Rattle.std.specs.Prelude.{slice_index_or, slice_set}
use Rattle.std.proofs.lemmas.List.{get_or_default, length-set}
use Rattle.pw_opt_places.specs.declared.places.Place.{Place}
use Rattle.pw_opt_places.specs.declared.places.Place.TheVariants.{Own}
use Rattle.pw_opt_places.specs.Places.{AreGiven}
use Rattle.pw_opt_places.proofs.Giving.{own_given}
use Rattle.pw_opt_places.proofs.places.Given.give_own.Goals as goal

pub overflow_add-next : goal.overflow_add-next
overflow_add-next c =
    let g = c.args.self.now in
    let few = c.requires.are.fewer c.args.block in
    let is : c.index-number.result.now ≡ slice_index_or g.counts.items c.args.block 0 = c.index-number.ensures ∙ get_or_default g.counts.items c.args.block c.index-number.result.now 0 c.requires.block in
    let small = g.places.small in
    omega (arith, few, is, small)

pub returns-clause-are : goal.returns-clause-are
returns-clause-are c =
    let g = c.args.self.now in
    let b = c.args.block in
    let n = c.index-number.result.now in
    let is : n ≡ slice_index_or g.counts.items b 0 = c.index-number.ensures ∙ get_or_default g.counts.items b n 0 c.requires.block in
    subst (λ (places : List Place). AreGiven places g.names.items (slice_set g.counts.items b (n + 1))) (sym c.in_ok-push.ensures.items)
    (subst (λ (k : ℕ). AreGiven (g.places.items ++ Own b k ∷ []) g.names.items (slice_set g.counts.items b (k + 1))) (sym is)
    (own_given g.places.items g.names.items g.counts.items b c.requires.block c.requires.are))

pub returns-clause-place : goal.returns-clause-place
returns-clause-place c =
    let g = c.args.self.now in
    let b = c.args.block in
    let n = c.index-number.result.now in
    let is : n ≡ slice_index_or g.counts.items b 0 = c.index-number.ensures ∙ get_or_default g.counts.items b n 0 c.requires.block in
    (c.in_ok-push.ensures.items ∙ ap (λ (k : ℕ). g.places.items ++ Own b k ∷ []) is, length-set g.counts.items b (n + 1))
