-- Registers of several points and temporaries, one behind the other.
use Rattle.std.proofs.Common.{◌≡◌, ◌⊎◌, ℕ, ◌+◌, ◌<◌, ◌≤◌, List, length, get_or, max, set, take, refl, sym, ap, subst, ◌∙◌, arith, inl, inr}
use Rattle.std.specs.Prelude.{slice_index, Contains, ◌↔◌}
use Rattle.std.proofs.lemmas.Bool.{cases_eq}
use Rattle.std.proofs.lemmas.List.{take_all, get_or-set_same, get_or-set_other}
use Rattle.pw_live_spans.specs.Spans.{IsIn, Covers}
use Rattle.pw_live_spans.proofs.Steps.{first_more, first_none}
use Rattle.pw_alloc_masks.specs.Masks.{HasRegister}
use Rattle.pw_alloc_masks.specs.Sets.{HasWithin}
use Rattle.pw_alloc_masks.specs.declared.sets.PointSets.{PointSets}
use Rattle.pw_alloc_taken.specs.Masks.{IsMadeBeside, IsOccupiedBehind}

-- ---- spans

pub beside_none : (made : PointSets) (spans : List (ℕ × ℕ)) (k : ℕ) → ¬ IsMadeBeside made (take 0 spans) k
beside_none made spans k h = first_none spans h.1.0 h.1.1

pub beside_more : (made : PointSets) (spans : List (ℕ × ℕ)) (i : ℕ) (span : ℕ × ℕ) (New Cur Within : ℕ → Type 0) → i < length spans → get_or spans i span ≡ span
    → ((k : ℕ) → Within k ↔ HasWithin made span.0 span.1 k)
    → ((k : ℕ) → New k ↔ (Cur k ⊎ Within k))
    → ((k : ℕ) → Cur k ↔ IsMadeBeside made (take i spans) k)
    → (k : ℕ) → New k ↔ IsMadeBeside made (take (i + 1) spans) k
beside_more made spans i span New Cur Within lt is within now before k = (
  λ h. elim ((now k).0 h) [
    | inl c ↦ let b = (before k).0 c in (b.0, (b.1.0, (first_more spans i span b.1.0 lt is).1 (inl b.1.1), b.1.2), b.2)
    | inr one ↦ let w = (within k).0 one in (w.0, (span, (first_more spans i span span lt is).1 (inr refl), (w.1, w.2)), w.3)
  ],
  λ h. (now k).1 (elim ((first_more spans i span h.1.0 lt is).0 h.1.1) [
    | inl c ↦ inl ((before k).1 (h.0, (h.1.0, c, h.1.2), h.2))
    | inr same ↦
        let inside : IsIn span h.0 = subst (λ (s : ℕ × ℕ). IsIn s h.0) same h.1.2 in
        inr ((within k).1 (h.0, inside.0, inside.1, h.2))
  ]),
)

-- ---- points behind definitions

pub behind_none : (definitions occupied : List ℕ) (k : ℕ) → ¬ IsOccupiedBehind (take 0 definitions) occupied k
behind_none definitions occupied k h = first_none definitions h.0 h.1

pub behind_more : (definitions occupied : List ℕ) (i p : ℕ) (New Cur : ℕ → Type 0) → i < length definitions → get_or definitions i p ≡ p
    → ((k : ℕ) → New k ↔ (Cur k ⊎ HasRegister (slice_index occupied p) k))
    → ((k : ℕ) → Cur k ↔ IsOccupiedBehind (take i definitions) occupied k)
    → (k : ℕ) → New k ↔ IsOccupiedBehind (take (i + 1) definitions) occupied k
behind_more definitions occupied i p New Cur lt is now before k = (
  λ h. elim ((now k).0 h) [
    | inl c ↦ let b = (before k).0 c in (b.0, (first_more definitions i p b.0 lt is).1 (inl b.1), b.2)
    | inr w ↦ (p, (first_more definitions i p p lt is).1 (inr refl), w)
  ],
  λ h. (now k).1 (elim ((first_more definitions i p h.0 lt is).0 h.1) [
    | inl c ↦ inl ((before k).1 (h.0, c, h.2))
    | inr same ↦ inr (subst (λ (q : ℕ). HasRegister (slice_index occupied q) k) same h.2)
  ]),
)

-- ---- a register put to points

pub put_none : (definitions : List ℕ) (r : ℕ) (Old : ℕ → ℕ → Type 0) → (q k : ℕ) → Old q k ↔ (Old q k ⊎ (Contains (take 0 definitions) q × (k ≡ r)))
put_none definitions r Old q k = (λ h. inl h, λ h. elim h [ inl o ↦ o | inr w ↦ absurd (first_none definitions q w.0) ])

pub put_more : (definitions : List ℕ) (i p r : ℕ) (New Cur Old : ℕ → ℕ → Type 0) → i < length definitions → get_or definitions i p ≡ p
    → ((q k : ℕ) → New q k ↔ (Cur q k ⊎ ((q ≡ p) × (k ≡ r))))
    → ((q k : ℕ) → Cur q k ↔ (Old q k ⊎ (Contains (take i definitions) q × (k ≡ r))))
    → (q k : ℕ) → New q k ↔ (Old q k ⊎ (Contains (take (i + 1) definitions) q × (k ≡ r)))
put_more definitions i p r New Cur Old lt is now before q k = (
  λ h. elim ((now q k).0 h) [
    | inl c ↦ elim ((before q k).0 c) [ inl o ↦ inl o | inr w ↦ inr ((first_more definitions i p q lt is).1 (inl w.0), w.1) ]
    | inr e ↦ inr ((first_more definitions i p q lt is).1 (inr e.0), e.1)
  ],
  λ h. (now q k).1 (elim h [
    | inl o ↦ inl ((before q k).1 (inl o))
    | inr w ↦ elim ((first_more definitions i p q lt is).0 w.0) [
      | inl c ↦ inl ((before q k).1 (inr (c, w.1)))
      | inr same ↦ inr (same, w.1)
    ]
  ]),
)

pub put_all : (definitions : List ℕ) (i r : ℕ) (New Old : ℕ → ℕ → Type 0) → length definitions ≤ i → ((q k : ℕ) → New q k ↔ (Old q k ⊎ (Contains (take i definitions) q × (k ≡ r))))
    → (q k : ℕ) → New q k ↔ (Old q k ⊎ (Contains definitions q × (k ≡ r)))
put_all definitions i r New Old le is = subst (λ (ds : List ℕ). (q k : ℕ) → New q k ↔ (Old q k ⊎ (Contains ds q × (k ≡ r)))) (take_all i definitions le) is

-- ---- a register over points

pub over_none : (from r : ℕ) (Old : ℕ → ℕ → Type 0) → (q k : ℕ) → Old q k ↔ (Old q k ⊎ ((from ≤ q) × (q < from) × (k ≡ r)))
over_none from r Old q k = (λ h. inl h, λ h. elim h [ inl o ↦ o | inr w ↦ absurd (let low = w.0 in let high = w.1 in omega (arith, low, high)) ])

pub over_more : (masks new : List ℕ) (from p r mask : ℕ) (Old : ℕ → ℕ → Type 0) → from ≤ p → p < length masks → new ≡ set masks p mask
    → ((k : ℕ) → HasRegister mask k ↔ (HasRegister (slice_index masks p) k ⊎ (k ≡ r)))
    → ((q k : ℕ) → HasRegister (slice_index masks q) k ↔ (Old q k ⊎ ((from ≤ q) × (q < p) × (k ≡ r))))
    → (q k : ℕ) → HasRegister (slice_index new q) k ↔ (Old q k ⊎ ((from ≤ q) × (q < p + 1) × (k ≡ r)))
over_more masks new from p r mask Old low lt is now before q k = elim (cases_eq q p) [
  | inl same ↦
      let here : slice_index new q ≡ mask = ap (λ (n : ℕ). slice_index new n) same ∙ ap (λ (ms : List ℕ). slice_index ms p) is ∙ get_or-set_same masks p mask 0 lt in (
        λ h. elim ((now k).0 (subst (λ (m : ℕ). HasRegister m k) here h)) [
          | inl o ↦ elim ((before p k).0 o) [
            | inl old ↦ inl (subst (λ (n : ℕ). Old n k) (sym same) old)
            | inr w ↦ absurd (let high = w.1 in omega (arith, high))
          ]
          | inr e ↦ inr (omega (arith, same, low), omega (arith, same), e)
        ],
        λ h. subst (λ (m : ℕ). HasRegister m k) (sym here) ((now k).1 (elim h [
          | inl old ↦ inl ((before p k).1 (inl (subst (λ (n : ℕ). Old n k) same old)))
          | inr w ↦ inr w.2
        ])),
      )
  | inr other ↦
      let there : slice_index new q ≡ slice_index masks q = ap (λ (ms : List ℕ). slice_index ms q) is ∙ get_or-set_other masks p q mask 0 other in (
        λ h. elim ((before q k).0 (subst (λ (m : ℕ). HasRegister m k) there h)) [
          | inl old ↦ inl old
          | inr w ↦ let high = w.1 in inr (w.0, omega (arith, high), w.2)
        ],
        λ h. subst (λ (m : ℕ). HasRegister m k) (sym there) ((before q k).1 (elim h [
          | inl old ↦ inl old
          | inr w ↦ let high = w.1 in inr (w.0, omega (arith, high, other), w.2)
        ])),
      )
]

pub over_end : (from p to r : ℕ) (New Old : ℕ → ℕ → Type 0) → p ≤ max from to → to ≤ p
    → ((q k : ℕ) → New q k ↔ (Old q k ⊎ ((from ≤ q) × (q < p) × (k ≡ r))))
    → (q k : ℕ) → New q k ↔ (Old q k ⊎ ((from ≤ q) × (q < to) × (k ≡ r)))
over_end from p to r New Old up past is q k = (
  λ h. elim ((is q k).0 h) [
    | inl o ↦ inl o
    | inr w ↦ let low = w.0 in let high = w.1 in inr (low, omega (arith, low, high, up), w.2)
  ],
  λ h. (is q k).1 (elim h [
    | inl o ↦ inl o
    | inr w ↦ let high = w.1 in inr (w.0, omega (arith, high, past), w.2)
  ]),
)

-- ---- a register over spans

pub spread_none : (spans : List (ℕ × ℕ)) (r : ℕ) (Old : ℕ → ℕ → Type 0) → (q k : ℕ) → Old q k ↔ (Old q k ⊎ (Covers (take 0 spans) q × (k ≡ r)))
spread_none spans r Old q k = (λ h. inl h, λ h. elim h [ inl o ↦ o | inr w ↦ absurd (first_none spans w.0.0 w.0.1) ])

pub spread_more : (spans : List (ℕ × ℕ)) (i : ℕ) (span : ℕ × ℕ) (r : ℕ) (New Cur Old : ℕ → ℕ → Type 0) → i < length spans → get_or spans i span ≡ span
    → ((q k : ℕ) → New q k ↔ (Cur q k ⊎ ((span.0 ≤ q) × (q < span.1) × (k ≡ r))))
    → ((q k : ℕ) → Cur q k ↔ (Old q k ⊎ (Covers (take i spans) q × (k ≡ r))))
    → (q k : ℕ) → New q k ↔ (Old q k ⊎ (Covers (take (i + 1) spans) q × (k ≡ r)))
spread_more spans i span r New Cur Old lt is now before q k = (
  λ h. elim ((now q k).0 h) [
    | inl c ↦ elim ((before q k).0 c) [
      | inl o ↦ inl o
      | inr w ↦ inr ((w.0.0, (first_more spans i span w.0.0 lt is).1 (inl w.0.1), w.0.2), w.1)
    ]
    | inr w ↦ inr ((span, (first_more spans i span span lt is).1 (inr refl), (w.0, w.1)), w.2)
  ],
  λ h. (now q k).1 (elim h [
    | inl o ↦ inl ((before q k).1 (inl o))
    | inr w ↦ elim ((first_more spans i span w.0.0 lt is).0 w.0.1) [
      | inl c ↦ inl ((before q k).1 (inr ((w.0.0, c, w.0.2), w.1)))
      | inr same ↦
          let inside : IsIn span q = subst (λ (s : ℕ × ℕ). IsIn s q) same w.0.2 in
          inr (inside.0, inside.1, w.1)
    ]
  ]),
)

pub spread_all : (spans : List (ℕ × ℕ)) (i r : ℕ) (New Old : ℕ → ℕ → Type 0) → length spans ≤ i
    → ((q k : ℕ) → New q k ↔ (Old q k ⊎ (Covers (take i spans) q × (k ≡ r))))
    → (q k : ℕ) → New q k ↔ (Old q k ⊎ (Covers spans q × (k ≡ r)))
spread_all spans i r New Old le is = subst (λ (ss : List (ℕ × ℕ)). (q k : ℕ) → New q k ↔ (Old q k ⊎ (Covers ss q × (k ≡ r)))) (take_all i spans le) is
