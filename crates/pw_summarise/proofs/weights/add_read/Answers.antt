use Rattle.std.proofs.Common.{◌≡◌, ℕ, List, get_or, sym, ap, ◌∙◌}
use Rattle.std.proofs.lemmas.List.{get_or_default}
use Rattle.pw_summarise.specs.Tallies.{with_weight}
use Rattle.pw_summarise.proofs.References.{read_changed, read_nowhere}
use Rattle.pw_summarise.proofs.weights.add_read.Goals as goal

pub returns-in-Some : goal.returns-in-Some
returns-in-Some c =
    let rs = c.args.refs.now in
    let i = c.in-Some.place in
    let r = c.index-refs-place.result in
    let d = c.index-refs-place-in-Some.result in
    let same : get_or rs i d ≡ r = get_or_default rs i d r c.in-Some.ensures.within ∙ sym c.index-refs-place.is in
    read_changed c.args.weight c.args.name.now rs c.requires i r ((get_or rs i d).0, c.with_weight.result, (get_or rs i d).2) c.in-Some.ensures.within c.index-refs-place.is
    (ap (λ (z : List ℕ × ℕ × ℕ). z.0) c.index-refs-place.is ∙ c.in-Some.ensures.found r)
    (ap (λ (z : List ℕ × ℕ × ℕ). (z.0, c.with_weight.result, z.2)) same ∙ ap (λ (n : ℕ). (r.0, n, r.2)) (c.with_weight.ensures ∙ ap (λ (z : List ℕ × ℕ × ℕ). with_weight z.1 c.args.weight) (sym c.index-refs-place.is)))

pub returns-in_default : goal.returns-in_default
returns-in_default c = read_nowhere c.args.weight c.args.name.now c.args.refs.now c.in_default.ensures.none
