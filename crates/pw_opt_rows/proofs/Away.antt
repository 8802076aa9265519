-- What is not away from home is at home.
use Rattle.std.specs.Prelude.{ℕ, ◌≡◌, ◌<◌, List, All, length}
use Rattle.std.proofs.Common.{refl, subst, arith, inl, inr}
use Rattle.std.proofs.lemmas.Bool.{cases_lt, cases_eq}
use Rattle.pw_flow.specs.declared.flow.Op.{Op}
use Rattle.pw_flow.specs.declared.flow.Block.{Block}
use Rattle.pw_opt_places.specs.declared.places.Place.{Place}
use Rattle.pw_opt_places.specs.declared.places.Place.TheVariants.{Nowhere, Own, Shared}
use Rattle.pw_opt_places.specs.Places.{place_of, IsPlaceIn, IsAtHome, DefinesAtHome, DefineAtHome}
use Rattle.pw_opt_rows.specs.Places.{DefinesNoneAway, DefineNoneAway}

at_home : (places : List Place) (b t : ℕ) → ¬ ¬ IsAtHome places b t → IsAtHome places b t
at_home places b t near = elim (cases_lt t (length places)) [
  | inl lt ↦ inr (by (place_of places t) refl lt)
  | inr past ↦ inl past
]
  where
    never : (p : Place) → place_of places t ≡ p → t < length places → ¬ IsPlaceIn b p → ⊥
    never p is lt away = near (λ home. elim home [ inl past ↦ absurd (omega (arith, past, lt)) | inr here ↦ away (subst (IsPlaceIn b) is here) ])

    by : (p : Place) → place_of places t ≡ p → t < length places → IsPlaceIn b p
    by Nowhere is lt = absurd (never Nowhere is lt (λ h. h))
    by (Own c j) is lt = elim (cases_eq c b) [ inl same ↦ same | inr other ↦ absurd (never (Own c j) is lt other) ]
    by (Shared i) is lt = tt

pub all_home : (places : List Place) (b : ℕ) (ops : List Op) → All (DefinesNoneAway places b) ops → All (DefinesAtHome places b) ops
all_home places b ops all k d lt t e = at_home places b t (all k d lt t e)

pub none_away : (places : List Place) (blocks : List Block) → DefineAtHome places blocks → DefineNoneAway places blocks
none_away places blocks home b block at k d lt t e away = away (home b block at k d lt t e)
