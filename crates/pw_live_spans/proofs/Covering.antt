-- The points of spans, behind which another one is put.
use Rattle.std.proofs.Common.{◌≡◌, ◌⊎◌, ℕ, ◌<◌, ◌≤◌, List, [], ◌∷◌, ◌++◌, sym, subst, ◌∙◌, arith, inl, inr}
use Rattle.std.specs.Prelude.{◌↔◌}
use Rattle.std.proofs.lemmas.Bool.{cases_lt}
use Rattle.std.proofs.lemmas.List.Elements.{Contains-append_left, Contains-push, Contains-push_cases}
use Rattle.pw_live_spans.specs.Spans.{IsIn, Covers}

covers_push : (spans : List (ℕ × ℕ)) (span : ℕ × ℕ) (q : ℕ) → Covers (spans ++ span ∷ []) q ↔ (Covers spans q ⊎ IsIn span q)
covers_push spans span q = (
  λ h. elim (Contains-push_cases spans span h.0 h.1) [
    | inl c ↦ inl (h.0, c, h.2)
    | inr e ↦ inr (subst (λ (s : ℕ × ℕ). IsIn s q) (sym e) h.2)
  ],
  λ h. elim h [
    | inl c ↦ (c.0, Contains-append_left spans (span ∷ []) c.0 c.1, c.2)
    | inr k ↦ (span, Contains-push spans span, k)
  ],
)

-- ---- a span and points

abbrev pub IsBetween : ℕ → ℕ → ℕ → Type 0
IsBetween from to q = (from ≤ q) × (q < to)

-- the span begins where the points end
pub put_joined : (old new : List (ℕ × ℕ)) (low high from to : ℕ) → low ≡ to → low ≤ high → from ≤ to → new ≡ old ++ (from, high) ∷ []
    → (q : ℕ) → Covers new q ↔ ((Covers old q ⊎ IsIn (low, high) q) ⊎ IsBetween from to q)
put_joined old new low high from to touch up le n q =
    let one = covers_push old (from, high) q in (
      λ h. elim (one.0 (subst (λ (xs : List (ℕ × ℕ)). Covers xs q) n h)) [
        | inl k ↦ inl (inl k)
        | inr k ↦
            let first : from ≤ q = k.0 in
            let last : q < high = k.1 in
            elim (cases_lt q to) [
              | inl lt ↦ inr (first, lt)
              | inr past ↦ inl (inr (omega (arith, touch, past), last))
            ]
      ],
      λ h. subst (λ (xs : List (ℕ × ℕ)). Covers xs q) (sym n) (one.1 (elim h [
        | inl k ↦ elim k [
          | inl c ↦ inl c
          | inr c ↦
              let first : low ≤ q = c.0 in
              let last : q < high = c.1 in
              inr (omega (arith, touch, le, first), last)
        ]
        | inr k ↦
            let first : from ≤ q = k.0 in
            let last : q < to = k.1 in
            inr (first, omega (arith, touch, up, last))
      ])),
    )

-- they stand one behind the other
pub put_both : (old mid new : List (ℕ × ℕ)) (last : ℕ × ℕ) (from to : ℕ) → mid ≡ old ++ last ∷ [] → new ≡ mid ++ (from, to) ∷ []
    → (q : ℕ) → Covers new q ↔ ((Covers old q ⊎ IsIn last q) ⊎ IsBetween from to q)
put_both old mid new last from to m n q =
    let one = covers_push mid (from, to) q in
    let two = covers_push old last q in (
      λ h. elim (one.0 (subst (λ (xs : List (ℕ × ℕ)). Covers xs q) n h)) [ inl k ↦ inl (two.0 (subst (λ (xs : List (ℕ × ℕ)). Covers xs q) m k)) | inr k ↦ inr k ],
      λ h. subst (λ (xs : List (ℕ × ℕ)). Covers xs q) (sym n) (one.1 (elim h [ inl k ↦ inl (subst (λ (xs : List (ℕ × ℕ)). Covers xs q) (sym m) (two.1 k)) | inr k ↦ inr k ])),
    )

-- ---- all spans

pub alone : (old mid new : List (ℕ × ℕ)) (from to : ℕ) → old ≡ [] → mid ≡ [] → new ≡ mid ++ (from, to) ∷ [] → (q : ℕ) → Covers new q ↔ (Covers old q ⊎ IsBetween from to q)
alone old mid new from to o m n q =
    let one = covers_push mid (from, to) q in
    let same : mid ≡ old = m ∙ sym o in (
      λ h. elim (one.0 (subst (λ (xs : List (ℕ × ℕ)). Covers xs q) n h)) [ inl k ↦ inl (subst (λ (xs : List (ℕ × ℕ)). Covers xs q) same k) | inr k ↦ inr k ],
      λ h. subst (λ (xs : List (ℕ × ℕ)). Covers xs q) (sym n) (one.1 (elim h [ inl k ↦ inl (subst (λ (xs : List (ℕ × ℕ)). Covers xs q) (sym same) k) | inr k ↦ inr k ])),
    )

pub with_last : (old mid new : List (ℕ × ℕ)) (last : ℕ × ℕ) (from to : ℕ) → old ≡ mid ++ last ∷ []
    → ((q : ℕ) → Covers new q ↔ ((Covers mid q ⊎ IsIn last q) ⊎ IsBetween from to q))
    → (q : ℕ) → Covers new q ↔ (Covers old q ⊎ IsBetween from to q)
with_last old mid new last from to o now q =
    let was = covers_push mid last q in (
      λ h. elim ((now q).0 h) [ inl k ↦ inl (subst (λ (xs : List (ℕ × ℕ)). Covers xs q) (sym o) (was.1 k)) | inr k ↦ inr k ],
      λ h. (now q).1 (elim h [ inl k ↦ inl (was.0 (subst (λ (xs : List (ℕ × ℕ)). Covers xs q) o k)) | inr k ↦ inr k ]),
    )
