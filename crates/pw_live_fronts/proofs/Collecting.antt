-- The temporaries of the numbers that a row holds, from the least one on.
use Rattle.std.proofs.Common.{◌≡◌, ◌⊎◌, ℕ, ◌+◌, ◌-◌, ◌<◌, ◌≤◌, List, [], ◌∷◌, ◌++◌, length, sym, subst, ◌∙◌, arith, inl, inr}
use Rattle.std.specs.Prelude.{None, Some, slice_get, slice_index, vec_len, Contains, ◌↔◌}
use Rattle.std.proofs.lemmas.Bool.{cases_eq, cases_lt}
use Rattle.std.proofs.lemmas.List.Elements.{Contains-append_left, Contains-push, Contains-push_cases}
use Rattle.std.proofs.lemmas.Option.{same_Some, slice_get_within, get_or_from_slice_get}
use Rattle.pw_fix.specs.Row.{Holds}
use Rattle.pw_fix.specs.declared.bit_row.BitRow.{BitRow}
use Rattle.pw_live_fronts.specs.Exposing.{IsNumber}
use Rattle.pw_live_fronts.specs.LiveFronts.{IsLiveAt}
use Rattle.pw_live_fronts.specs.declared.fronts.Fronts.{Fronts}
use Rattle.pw_live_fronts.specs.declared.named.Exposed.{Exposed}

-- ---- one temporary

pub named_push : (e : Exposed) (i t : ℕ) (old new : List ℕ) → i < length e.names.items → new ≡ old ++ slice_index e.names.items i ∷ [] → Contains new t ↔ (Contains old t ⊎ IsNumber e t i)
named_push e i t old new lt is =
    let name = slice_index e.names.items i in (
      λ h. elim (Contains-push_cases old name t (subst (λ (ts : List ℕ). Contains ts t) is h)) [
        | inl c ↦ inl c
        | inr same ↦ inr (subst (λ (u : ℕ). IsNumber e u i) same (e.named i lt))
      ],
      λ h. subst (λ (ts : List ℕ). Contains ts t) (sym is) (elim h [
        | inl c ↦ Contains-append_left old (name ∷ []) t c
        | inr n ↦
            let same : name ≡ t = get_or_from_slice_get e.names.items i t 0 (e.numbered t i n) in
            subst (λ (u : ℕ). Contains (old ++ name ∷ []) u) same (Contains-push old name)
      ]),
    )

pub unnamed : (e : Exposed) (i t : ℕ) (old : List ℕ) → length e.names.items ≤ i → Contains old t ↔ (Contains old t ⊎ IsNumber e t i)
unnamed e i t old past = (λ h. inl h, λ h. elim h [ inl c ↦ c | inr n ↦ absurd (let lt = slice_get_within e.names.items i t (e.numbered t i n) in omega (arith, lt, past)) ])

-- ---- those of the numbers below a place

pub record IsFound (e : Exposed) (row : BitRow) (at t : ℕ) : Type 0 where
  pub number : ℕ
  pub is : IsNumber e t number
  pub low : number < at
  pub holds : Holds row number

pub found_none : (e : Exposed) (row : BitRow) (t : ℕ) → ¬ IsFound e row 0 t
found_none e row t h = let lt = h.low in omega (arith, lt)

pub found_more : (e : Exposed) (row : BitRow) (at i t : ℕ) (old new : List ℕ) → at ≤ i → Holds row i → ((k : ℕ) → at ≤ k → k < i → ¬ Holds row k)
    → (Contains new t ↔ (Contains old t ⊎ IsNumber e t i)) → (Contains old t ↔ IsFound e row at t) → Contains new t ↔ IsFound e row (i + 1) t
found_more e row at i t old new le here least now before = (
  λ h. elim (now.0 h) [
    | inl c ↦ let f = before.0 c in let lt = f.low in record { number = f.number; is = f.is; low = omega (arith, lt, le); holds = f.holds }
    | inr n ↦ record { number = i; is = n; low = omega arith; holds = here }
  ],
  λ f. elim (cases_lt f.number at) [
    | inl low ↦ now.1 (inl (before.1 (record { number = f.number; is = f.is; low = low; holds = f.holds })))
    | inr past ↦ elim (cases_eq f.number i) [
      | inl same ↦ now.1 (inr (subst (λ (n : ℕ). IsNumber e t n) same f.is))
      | inr other ↦ absurd (let lt = f.low in least f.number past (omega (arith, lt, other)) f.holds)
    ]
  ],
)

pub found_all : (e : Exposed) (row : BitRow) (at t : ℕ) (live : List ℕ) → ((k : ℕ) → at ≤ k → ¬ Holds row k) → (Contains live t ↔ IsFound e row at t)
    → Contains live t ↔ ((i : ℕ) × IsNumber e t i × Holds row i)
found_all e row at t live none before = (
  λ h. let f = before.0 h in (f.number, f.is, f.holds),
  λ n. before.1 (elim (cases_lt n.0 at) [
    | inl low ↦ record { number = n.0; is = n.1; low = low; holds = n.2 }
    | inr past ↦ absurd (none n.0 past n.2)
  ]),
)

-- ---- the row of a block

pub live_is : (v : Fronts) (b t : ℕ) (row : BitRow) (live : List ℕ) → slice_get v.rows.items (vec_len v.rows - 1 - b) ≡ Some row
    → (Contains live t ↔ ((i : ℕ) × IsNumber v.exposed t i × Holds row i)) → Contains live t ↔ IsLiveAt v b t
live_is v b t row live at is = (
  λ h. let n = is.0 h in record { number = n.0; is = n.1; row = row; at = at; holds = n.2 },
  λ l. is.1 (l.number, l.is, subst (λ (r : BitRow). Holds r l.number) (same_Some l.row row (sym l.at ∙ at)) l.holds),
)

pub one_live : (v : Fronts) (b t i : ℕ) (row : BitRow) (Answer : Type 0) → IsNumber v.exposed t i → slice_get v.rows.items (vec_len v.rows - 1 - b) ≡ Some row
    → (Answer ↔ Holds row i) → Answer ↔ IsLiveAt v b t
one_live v b t i row Answer number at is = (
  λ h. record { number = i; is = number; row = row; at = at; holds = is.0 h },
  λ l.
      let same : l.number ≡ i = same_Some l.number i (same_Some (Some l.number) (Some i) (sym l.is ∙ number)) in
      is.1 (subst (Holds row) same (subst (λ (r : BitRow). Holds r l.number) (same_Some l.row row (sym l.at ∙ at)) l.holds)),
)

pub none_live : (v : Fronts) (b t : ℕ) → slice_get v.exposed.numbers.items t ≡ Some None → ¬ IsLiveAt v b t
none_live v b t none l = let clash : Some (Some l.number) ≡ Some None = sym l.is ∙ none in cc
