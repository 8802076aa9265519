-- Sets that are joined: how one more register gets into them, and how they are halved.
use Rattle.std.proofs.Common.{◌≡◌, ◌⊎◌, ℕ, ◌+◌, ◌-◌, ◌/◌, ◌%◌, ◌<◌, ◌≤◌, List, length, set, sym, ap, subst, ◌∙◌, arith, inl, inr}
use Rattle.std.specs.Prelude.{slice_index, ◌↔◌}
use Rattle.std.specs.Int.{bit_at}
use Rattle.std.proofs.lemmas.Bool.{cases_eq}
use Rattle.std.proofs.lemmas.Nat.Bits.{bit_at-zero}
use Rattle.std.proofs.lemmas.List.{get_or-set_same, get_or-set_other}
use Rattle.pw_alloc_masks.specs.Masks.{HasRegister}
use Rattle.pw_alloc_masks.specs.Sets.{HasPlace, HasBelow, HasAmong, AreJoined, AreJoinedBut, HasWithin}
use Rattle.pw_alloc_masks.specs.declared.sets.PointSets.{PointSets}

-- the empty set
pub zero_mask : (k : ℕ) → ¬ HasRegister 0 k
zero_mask k h = let none : bit_at 0 k ≡ 0 = bit_at-zero k in let clash : 1 ≡ 0 = sym h ∙ none in omega (arith, clash)

-- ---- one more register at a place

pub put_has : (masks new : List ℕ) (i r mask : ℕ) → i < length masks → new ≡ set masks i mask → ((k : ℕ) → HasRegister mask k ↔ (HasPlace masks i k ⊎ (k ≡ r)))
    → (j k : ℕ) → HasPlace new j k ↔ (HasPlace masks j k ⊎ ((j ≡ i) × (k ≡ r)))
put_has masks new i r mask lt is now j k = elim (cases_eq j i) [
  | inl same ↦
      let here : slice_index new j ≡ mask = ap (λ (n : ℕ). slice_index new n) same ∙ ap (λ (ms : List ℕ). slice_index ms i) is ∙ get_or-set_same masks i mask 0 lt in (
        λ h. elim ((now k).0 (subst (λ (m : ℕ). HasRegister m k) here h)) [
          | inl old ↦ inl (subst (λ (n : ℕ). HasPlace masks n k) (sym same) old)
          | inr e ↦ inr (same, e)
        ],
        λ h. subst (λ (m : ℕ). HasRegister m k) (sym here) ((now k).1 (elim h [
          | inl old ↦ inl (subst (λ (n : ℕ). HasPlace masks n k) same old)
          | inr e ↦ inr e.1
        ])),
      )
  | inr other ↦
      let there : slice_index new j ≡ slice_index masks j = ap (λ (ms : List ℕ). slice_index ms j) is ∙ get_or-set_other masks i j mask 0 other in (
        λ h. inl (subst (λ (m : ℕ). HasRegister m k) there h),
        λ h. elim h [ inl old ↦ subst (λ (m : ℕ). HasRegister m k) (sym there) old | inr e ↦ absurd (other e.0) ],
      )
]

-- no place of those that are joined is that of a point
pub joined_but : (points : ℕ) (masks : List ℕ) (place r : ℕ) → AreJoined points masks → points ≤ place → AreJoinedBut place r masks points
joined_but points masks place r joined past i k low high = (
  λ h. elim h [ inl old ↦ (joined.each i k low high).0 old | inr e ↦ absurd (let same = e.0 in omega (arith, same, past, high)) ],
  λ h. inl ((joined.each i k low high).1 h),
)

-- once it is put there, it is missing at the place above
pub joined_up : (old new : List ℕ) (points place above r : ℕ) → above ≡ place / 2 → ((j k : ℕ) → HasPlace new j k ↔ (HasPlace old j k ⊎ ((j ≡ place) × (k ≡ r))))
    → AreJoinedBut place r old points → AreJoinedBut above r new points
joined_up old new points place above r is put before i k low high = (
  λ h. elim h [
    | inl now ↦ below ((before i k low high).0 ((put i k).0 now))
    | inr e ↦
        let same = e.0 in
        elim (cases_eq (i + i) place) [
          | inl first ↦ inl ((put (i + i) k).1 (inr (first, e.1)))
          | inr other ↦ inr ((put (i + i + 1) k).1 (inr (omega (arith, same, is, other), e.1)))
        ]
  ],
  λ h. elim h [
    | inl left ↦ elim ((put (i + i) k).0 left) [
      | inl o ↦ inl ((put i k).1 ((before i k low high).1 (inl o)))
      | inr e ↦ let same = e.0 in inr (omega (arith, same, is), e.1)
    ]
    | inr right ↦ elim ((put (i + i + 1) k).0 right) [
      | inl o ↦ inl ((put i k).1 ((before i k low high).1 (inr o)))
      | inr e ↦ let same = e.0 in inr (omega (arith, same, is), e.1)
    ]
  ],
)
  where
    below : HasBelow old i k → HasBelow new i k
    below h = elim h [ inl left ↦ inl ((put (i + i) k).1 (inl left)) | inr right ↦ inr ((put (i + i + 1) k).1 (inl right)) ]

-- above the first place there is none
pub joined_all : (points : ℕ) (masks : List ℕ) (place r : ℕ) → place ≤ 0 → AreJoinedBut place r masks points → (i k : ℕ) → 0 < i → i < points → HasPlace masks i k ↔ HasBelow masks i k
joined_all points masks place r end but i k low high = (
  λ h. (but i k low high).0 (inl h),
  λ h. elim ((but i k low high).1 h) [ inl here ↦ here | inr e ↦ absurd (let same = e.0 in omega (arith, same, end, low)) ],
)

-- places behind are as they were
pub behind_same : (old new : List ℕ) (points place r : ℕ) → place < points → ((j k : ℕ) → HasPlace new j k ↔ (HasPlace old j k ⊎ ((j ≡ place) × (k ≡ r)))) → (j k : ℕ) → points ≤ j → HasPlace new j k ↔ HasPlace old j k
behind_same old new points place r lt put j k past = (
  λ h. elim ((put j k).0 h) [ inl o ↦ o | inr e ↦ absurd (let same = e.0 in omega (arith, same, past, lt)) ],
  λ h. (put j k).1 (inl h),
)

-- ---- the places from one up to another are those at the ends whose number is odd, and what is below those between

pub halves : (points : ℕ) (masks : List ℕ) (low high next last k : ℕ) → AreJoined points masks → 0 < low → low < high → high ≤ points + points → next ≡ (low + 1) / 2 → last ≡ high / 2
    → HasAmong masks low high k ↔ ((((low % 2 ≡ 1) × HasPlace masks low k) ⊎ ((high % 2 ≡ 1) × HasPlace masks (high - 1) k)) ⊎ HasAmong masks next last k)
halves points masks low high next last k joined least some most is_next is_last = (
  λ h.
      let i = h.0 in
      let from = h.1 in
      let to = h.2 in
      elim (cases_eq i low) [
        | inl same ↦ elim (cases_eq (low % 2) 1) [
          | inl odd ↦ inl (inl (odd, subst (λ (n : ℕ). HasPlace masks n k) same h.3))
          | inr even ↦ upper i to (omega (arith, same, even, is_next)) h.3
        ]
        | inr other ↦ upper i to (omega (arith, other, from, is_next)) h.3
      ],
  λ h. elim h [
    | inl ends ↦ elim ends [
      | inl first ↦ (low, omega arith, some, first.1)
      | inr end ↦ (high - 1, omega (arith, some), omega (arith, some), end.1)
    ]
    | inr w ↦
        let j = w.0 in
        let from = w.1 in
        let to = w.2 in
        let positive : 0 < j = omega (arith, from, is_next, least) in
        let few : j < points = omega (arith, to, is_last, most) in
        elim ((joined.each j k positive few).0 w.3) [
          | inl left ↦ (j + j, omega (arith, from, is_next), omega (arith, to, is_last), left)
          | inr right ↦ (j + j + 1, omega (arith, from, is_next), omega (arith, to, is_last), right)
        ]
  ],
)
  where
    Answer : Type 0
    Answer = (((low % 2 ≡ 1) × HasPlace masks low k) ⊎ ((high % 2 ≡ 1) × HasPlace masks (high - 1) k)) ⊎ HasAmong masks next last k

    middle : (i : ℕ) → next ≤ i / 2 → i / 2 < last → HasPlace masks i k → Answer
    middle i from to has =
        let positive : 0 < i / 2 = omega (arith, from, is_next, least) in
        let few : i / 2 < points = omega (arith, to, is_last, most) in
        inr (
          i / 2,
          from,
          to,
          (joined.each (i / 2) k positive few).1 (elim (cases_eq (i / 2 + i / 2) i) [
            | inl same ↦ inl (subst (λ (n : ℕ). HasPlace masks n k) (sym same) has)
            | inr other ↦ let same : i ≡ i / 2 + i / 2 + 1 = omega (arith, other) in inr (subst (λ (n : ℕ). HasPlace masks n k) same has)
          ]),
        )

    upper : (i : ℕ) → i < high → next ≤ i / 2 → HasPlace masks i k → Answer
    upper i to from has = elim (cases_eq (i + 1) high) [
      | inl same ↦ elim (cases_eq (high % 2) 1) [
        | inl odd ↦ let same_place : i ≡ high - 1 = omega (arith, same) in inl (inr (odd, subst (λ (n : ℕ). HasPlace masks n k) same_place has))
        | inr even ↦ middle i from (omega (arith, same, even, is_last)) has
      ]
      | inr other ↦ middle i from (omega (arith, other, to, is_last)) has
    ]

-- ---- what has been found, and what is left to be looked at

pub left_none : (Among : ℕ → Type 0) → (k : ℕ) → (HasRegister 0 k ⊎ Among k) ↔ Among k
left_none Among k = (λ h. elim h [ inl z ↦ absurd (zero_mask k z) | inr a ↦ a ], λ h. inr h)

pub left_less : (Found First New A B Rest Left All : Type 0) → First ↔ (Found ⊎ A) → New ↔ (First ⊎ B) → Left ↔ ((A ⊎ B) ⊎ Rest) → (Found ⊎ Left) ↔ All → (New ⊎ Rest) ↔ All
left_less Found First New A B Rest Left All first new left before = (
  λ h. before.0 (elim h [
    | inl n ↦ elim (new.0 n) [
      | inl f ↦ elim (first.0 f) [ inl o ↦ inl o | inr a ↦ inr (left.1 (inl (inl a))) ]
      | inr b ↦ inr (left.1 (inl (inr b)))
    ]
    | inr r ↦ inr (left.1 (inr r))
  ]),
  λ h. elim (before.1 h) [
    | inl o ↦ inl (new.1 (inl (first.1 (inl o))))
    | inr l ↦ elim (left.0 l) [
      | inl e ↦ elim e [ inl a ↦ inl (new.1 (inl (first.1 (inr a)))) | inr b ↦ inl (new.1 (inr b)) ]
      | inr r ↦ inr r
    ]
  ],
)

pub left_all : (masks : List ℕ) (low high k : ℕ) (Found All : Type 0) → high ≤ low → (Found ⊎ HasAmong masks low high k) ↔ All → Found ↔ All
left_all masks low high k Found All past is = (
  λ h. is.0 (inl h),
  λ h. elim (is.1 h) [ inl f ↦ f | inr w ↦ absurd (let from = w.1 in let to = w.2 in omega (arith, from, to, past)) ],
)

-- ---- the sets of points

pub within_are : (v : PointSets) (from to k : ℕ) → HasAmong v.masks.items (v.points + from) (v.points + to) k ↔ HasWithin v from to k
within_are v from to k = (
  λ h.
      let low = h.1 in
      let high = h.2 in
      let same : h.0 ≡ v.points + (h.0 - v.points) = omega (arith, low) in
      (h.0 - v.points, omega (arith, low), omega (arith, low, high), subst (λ (n : ℕ). HasPlace v.masks.items n k) same h.3),
  λ h.
      let low = h.1 in
      let high = h.2 in
      (v.points + h.0, omega (arith, low), omega (arith, high), h.3),
)
