use Rattle.std.proofs.Common.{◌≡◌, ◌∙◌, ◌<◌, ℕ, length, arith, inl, inr, subst, sym}
use Rattle.std.specs.Prelude.{slice_set}
use Rattle.std.proofs.lemmas.Bool.{cases_eq}
use Rattle.std.proofs.lemmas.List.{get_or-set_same, get_or-set_other}
use Rattle.pw_opt_rules.specs.declared.flat.Flat.TheVariants.{Many}
use Rattle.pw_opt_rules.specs.Rows.{known}
use Rattle.pw_opt_rows.proofs.row.make_many.Goals as goal

pub loop-place-preserved : goal.loop-place-preserved
loop-place-preserved c = λ j lt.
    let flats = c.loop-place.flats in
    let place = c.loop-place.place in
    let low : place < length flats = let test = c.loop-place-test.true in let long = c.loop-place.auto.flats in let few = c.requires in omega (arith, test, long, few) in
    elim (cases_eq j place) [
      | inl same ↦ subst (λ (k : ℕ). known (slice_set flats place Many) k ≡ Many) (sym same) (get_or-set_same flats place Many Many low)
      | inr other ↦ get_or-set_other flats place j Many Many other ∙ c.loop-place.invariant j (omega (arith, lt, other))
    ]

pub returns-clause-many : goal.returns-clause-many
returns-clause-many c = λ j lt. c.loop-place.invariant j (let done = c.loop-place-test.false in omega (arith, lt, done))
