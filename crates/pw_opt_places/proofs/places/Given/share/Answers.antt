use Rattle.std.proofs.Common.{◌≡◌, ◌∙◌, ◌++◌, ℕ, List, [], ◌∷◌, length, refl, sym, ap, subst, arith}
use Rattle.pw_opt_places.specs.declared.places.Place.{Place}
use Rattle.pw_opt_places.specs.declared.places.Place.TheVariants.{Shared}
use Rattle.pw_opt_places.specs.Places.{AreGiven}
use Rattle.pw_opt_places.proofs.Giving.{share_given}
use Rattle.pw_opt_places.proofs.places.Given.share.Goals as goal

pub returns-clause-are : goal.returns-clause-are
returns-clause-are c =
    let g = c.args.self.now in
    let number : c.len-number.result ≡ length g.names.items = (let len = c.len-number.ensures in let ok = g.names.ok.0 in omega (arith, len, ok)) in
    let pushed = c.in_ok-push-2.ensures.items ∙ ap (λ (n : ℕ). g.places.items ++ Shared n ∷ []) number in
    subst (λ (places : List Place). AreGiven places c.push.new.self.items g.counts.items) (sym pushed)
    (subst (λ (names : List ℕ). AreGiven (g.places.items ++ Shared (length g.names.items) ∷ []) names g.counts.items) (sym c.in_ok-push.ensures.items)
    (share_given g.places.items g.names.items g.counts.items c.args.t c.requires.next c.requires.are))

pub returns-clause-place : goal.returns-clause-place
returns-clause-place c =
    let g = c.args.self.now in
    let number : c.len-number.result ≡ length g.names.items = (let len = c.len-number.ensures in let ok = g.names.ok.0 in omega (arith, len, ok)) in
    (c.in_ok-push-2.ensures.items ∙ ap (λ (n : ℕ). g.places.items ++ Shared n ∷ []) number, refl)
