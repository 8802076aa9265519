-- What the steps of a walk do to what it has found.
use Rattle.std.proofs.Common.{◌≡◌, ◌≢◌, ◌⊎◌, ℕ, zero, suc, ◌+◌, ◌<◌, ◌≤◌, List, [], All, replicate, set, sym, ap, subst, ◌∙◌, arith, inl, inr}
use Rattle.std.specs.Prelude.{Option, None, Some, slice_get, ◌↔◌}
use Rattle.std.proofs.lemmas.Bool.{cases_eq}
use Rattle.std.proofs.lemmas.Option.{same_Some, slice_get_within}
use Rattle.pw_fix.proofs.Places.{All-at, slice_get-set_same, slice_get-set_other, set_cases}
use Rattle.pw_live_spans.specs.Spans.{Covers}
use Rattle.pw_live_spans.specs.Walking.{IsOpenTo, IsOpen, IsClosed, IsAhead, Marked}
use Rattle.pw_live_spans.specs.declared.walk.Walk.{Walk}

-- ---- none yet

nones : (n t : ℕ) (x : Option ℕ) → slice_get (replicate n None) t ≡ Some x → x ≡ None
nones zero t x e = absurd cc
nones (suc n) zero x e = sym (same_Some None x e)
nones (suc n) (suc t) x e = nones n t x e

pub new_shut : (w : Walk) (n : ℕ) → w.ends.items ≡ replicate n None → (t : ℕ) → ¬ IsOpen w t
new_shut w n is t h = let none : Some h.0 ≡ None = nones n t (Some h.0) (ap (λ (os : List (Option ℕ)). slice_get os t) (sym is) ∙ h.1) in cc

pub shut_all : (ends : List (Option ℕ)) (n : ℕ) → ends ≡ replicate n None → (t : ℕ) → ¬ ((e : ℕ) × (slice_get ends t ≡ Some (Some e)))
shut_all ends n is t h = let none : Some h.0 ≡ None = nones n t (Some h.0) (ap (λ (os : List (Option ℕ)). slice_get os t) (sym is) ∙ h.1) in cc

pub new_none : (w : Walk) (n : ℕ) → w.ends.items ≡ replicate n None → All (λ (spans : List (ℕ × ℕ)). spans ≡ []) w.lists.items → (t q : ℕ) → ¬ Marked w t q
new_none w n is none t q h = elim h [
  | inl c ↦
      let empty : c.spans ≡ [] = All-at (λ (spans : List (ℕ × ℕ)). spans ≡ []) w.lists.items t c.spans none c.at in
      let k = subst (λ (spans : List (ℕ × ℕ)). Covers spans q) empty c.covers in
      let lt : k.1.0 < 0 = k.1.1 in
      absurd (omega (arith, lt))
  | inr a ↦ new_shut w n is t (a.end, a.opens)
]

-- ---- ends are ahead

pub ahead_none : (n place : ℕ) (t e : ℕ) → slice_get (replicate n None) t ≡ Some (Some e) → place < e
ahead_none n place t e is = absurd (let none : Some e ≡ None = nones n t (Some e) is in cc)

pub ahead_with : (ends : List (Option ℕ)) (t place : ℕ) → ((u e : ℕ) → slice_get ends u ≡ Some (Some e) → place < e) → (u e : ℕ) → slice_get (set ends t (Some (place + 1))) u ≡ Some (Some e) → place < e
ahead_with ends t place ahead u e is = elim (set_cases ends t u (Some (place + 1)) (Some e) is) [
  | inl k ↦ let same = same_Some e (place + 1) k.1 in omega (arith, same)
  | inr k ↦ ahead u e k.1
]

pub ahead_without : (ends : List (Option ℕ)) (t place : ℕ) → ((u e : ℕ) → slice_get ends u ≡ Some (Some e) → place < e) → (u e : ℕ) → slice_get (set ends t None) u ≡ Some (Some e) → place < e
ahead_without ends t place ahead u e is = elim (set_cases ends t u None (Some e) is) [
  | inl k ↦ absurd (let clash : Some e ≡ None = k.1 in cc)
  | inr k ↦ ahead u e k.1
]

-- ---- what is open

pub open_with : (ends : List (Option ℕ)) (t n : ℕ) → slice_get ends t ≡ Some None
    → (u : ℕ) → ((e : ℕ) × (slice_get (set ends t (Some n)) u ≡ Some (Some e))) ↔ (((e : ℕ) × (slice_get ends u ≡ Some (Some e))) ⊎ (u ≡ t))
open_with ends t n shut u = (
  λ h. elim (set_cases ends t u (Some n) (Some h.0) h.1) [ inl k ↦ inr k.0 | inr k ↦ inl (h.0, k.1) ],
  λ h. elim h [
    | inl k ↦
        let apart : u ≢ t = λ same. let clash : Some (Some k.0) ≡ Some None = sym k.1 ∙ ap (slice_get ends) same ∙ shut in cc in
        (k.0, slice_get-set_other ends t u (Some n) apart ∙ k.1)
    | inr same ↦ (n, ap (slice_get (set ends t (Some n))) same ∙ slice_get-set_same ends t (Some n) (slice_get_within ends t None shut))
  ],
)

pub open_without : (ends : List (Option ℕ)) (t end : ℕ) → slice_get ends t ≡ Some (Some end)
    → (u : ℕ) → ((e : ℕ) × (slice_get (set ends t None) u ≡ Some (Some e))) ↔ (((e : ℕ) × (slice_get ends u ≡ Some (Some e))) × (u ≢ t))
open_without ends t end is u = (
  λ h. elim (set_cases ends t u None (Some h.0) h.1) [
    | inl k ↦ absurd (let clash : Some h.0 ≡ None = k.1 in cc)
    | inr k ↦ ((h.0, k.1), k.0)
  ],
  λ h. (h.0.0, slice_get-set_other ends t u None h.1 ∙ h.0.1),
)

-- ---- what stays

closed_stays : (a b : Walk) (t q : ℕ) → a.lists.items ≡ b.lists.items → IsClosed a t q → IsClosed b t q
closed_stays a b t q e h = record { spans = h.spans; at = ap (λ (ls : List (List (ℕ × ℕ))). slice_get ls t) (sym e) ∙ h.at; covers = h.covers }

open_stays : (a b : Walk) (t end : ℕ) → a.ends.items ≡ b.ends.items → IsOpenTo a t end → IsOpenTo b t end
open_stays a b t end e h = ap (λ (os : List (Option ℕ)). slice_get os t) (sym e) ∙ h

ahead_stays : (a b : Walk) (t q : ℕ) → a.ends.items ≡ b.ends.items → b.place ≤ a.place → IsAhead a t q → IsAhead b t q
ahead_stays a b t q e le h =
    let low = h.low in
    record { end = h.end; opens = open_stays a b t h.end e h.opens; low = omega (arith, le, low); high = h.high }

-- ---- back by a point

pub back_marks : (old new : Walk) → new.lists.items ≡ old.lists.items → new.ends.items ≡ old.ends.items → new.place + 1 ≡ old.place
    → (t q : ℕ) → Marked new t q ↔ (Marked old t q ⊎ (IsOpen old t × (q ≡ new.place)))
back_marks old new lists opens place t q = (
  λ h. elim h [
    | inl c ↦ inl (inl (closed_stays new old t q lists c))
    | inr a ↦ elim (cases_eq q new.place) [
      | inl same ↦ inr ((a.end, open_stays new old t a.end opens a.opens), same)
      | inr other ↦
          let low = a.low in
          inl (inr (record { end = a.end; opens = open_stays new old t a.end opens a.opens; low = omega (arith, low, other, place); high = a.high }))
    ]
  ],
  λ h. elim h [
    | inl k ↦ elim k [
      | inl c ↦ inl (closed_stays old new t q (sym lists) c)
      | inr a ↦ inr (ahead_stays old new t q (sym opens) (omega (arith, place)) a)
    ]
    | inr k ↦
        let end = k.0.0 in
        let is = k.1 in
        let up : old.place < end = old.ahead t end k.0.1 in
        inr (record { end = end; opens = open_stays old new t end (sym opens) k.0.1; low = omega (arith, is); high = omega (arith, is, up, place) })
  ],
)

-- ---- one more that is open

module _ (old new : Walk) (t : ℕ) (lists : new.lists.items ≡ old.lists.items) (place : new.place ≡ old.place)
    (shut : slice_get old.ends.items t ≡ Some None) (opens : new.ends.items ≡ set old.ends.items t (Some (old.place + 1))) where
  here : IsOpenTo new t (old.place + 1)
  here = ap (λ (os : List (Option ℕ)). slice_get os t) opens ∙ slice_get-set_same old.ends.items t (Some (old.place + 1)) (slice_get_within old.ends.items t None shut)

  -- what was opens is another one, and stays
  still : (u end : ℕ) → IsOpenTo old u end → IsOpenTo new u end
  still u end is =
      let apart : u ≢ t = λ same. let clash : Some (Some end) ≡ Some None = sym is ∙ ap (slice_get old.ends.items) same ∙ shut in cc in
      ap (λ (os : List (Option ℕ)). slice_get os u) opens ∙ slice_get-set_other old.ends.items t u (Some (old.place + 1)) apart ∙ is

  was : (u end : ℕ) → IsOpenTo new u end → ((u ≡ t) × (end ≡ old.place + 1)) ⊎ IsOpenTo old u end
  was u end is = elim (set_cases old.ends.items t u (Some (old.place + 1)) (Some end) (ap (λ (os : List (Option ℕ)). slice_get os u) (sym opens) ∙ is)) [
    | inl k ↦ inl (k.0, same_Some end (old.place + 1) k.1)
    | inr k ↦ inr k.1
  ]

  pub open_marks : (u q : ℕ) → Marked new u q ↔ (Marked old u q ⊎ ((u ≡ t) × (q ≡ old.place)))
  open_marks u q = (
    λ h. elim h [
      | inl c ↦ inl (inl (closed_stays new old u q lists c))
      | inr a ↦
          let low = a.low in
          let high = a.high in
          elim (was u a.end a.opens) [
            | inl k ↦ let end = k.1 in inr (k.0, omega (arith, low, high, end, place))
            | inr k ↦ inl (inr (record { end = a.end; opens = k; low = omega (arith, low, place); high = high }))
          ]
    ],
    λ h. elim h [
      | inl k ↦ elim k [
        | inl c ↦ inl (closed_stays old new u q (sym lists) c)
        | inr a ↦ let low = a.low in inr (record { end = a.end; opens = still u a.end a.opens; low = omega (arith, low, place); high = a.high })
      ]
      | inr k ↦
          let is = k.1 in
          inr (record { end = old.place + 1; opens = subst (λ (n : ℕ). IsOpenTo new n (old.place + 1)) (sym k.0) here; low = omega (arith, is, place); high = omega (arith, is) })
    ],
  )

-- one that is open already
pub opened_marks : (old : Walk) (t end : ℕ) → slice_get old.ends.items t ≡ Some (Some end) → (u q : ℕ) → Marked old u q ↔ (Marked old u q ⊎ ((u ≡ t) × (q ≡ old.place)))
opened_marks old t end is u q = (
  λ h. inl h,
  λ h. elim h [
    | inl k ↦ k
    | inr k ↦
        let same = k.1 in
        let up : old.place < end = old.ahead t end is in
        inr (record { end = end; opens = subst (λ (n : ℕ). IsOpenTo old n end) (sym k.0) is; low = omega (arith, same); high = omega (arith, same, up) })
  ],
)

pub opened_opens : (old : Walk) (t end : ℕ) → slice_get old.ends.items t ≡ Some (Some end) → (u : ℕ) → IsOpen old u ↔ (IsOpen old u ⊎ (u ≡ t))
opened_opens old t end is u = (λ h. inl h, λ h. elim h [ inl k ↦ k | inr same ↦ (end, subst (λ (n : ℕ). IsOpenTo old n end) (sym same) is) ])

-- ---- one that is open no more

module _ (old new : Walk) (t end : ℕ) (before after : List (ℕ × ℕ)) (place : new.place ≡ old.place)
    (is : slice_get old.ends.items t ≡ Some (Some end)) (opens : new.ends.items ≡ set old.ends.items t None)
    (at : slice_get old.lists.items t ≡ Some before) (lists : new.lists.items ≡ set old.lists.items t after)
    (covers : (q : ℕ) → Covers after q ↔ (Covers before q ⊎ ((old.place ≤ q) × (q < end)))) where
  other_open : (u e : ℕ) → u ≢ t → IsOpenTo old u e → IsOpenTo new u e
  other_open u e apart h = ap (λ (os : List (Option ℕ)). slice_get os u) opens ∙ slice_get-set_other old.ends.items t u None apart ∙ h

  was_open : (u e : ℕ) → IsOpenTo new u e → (u ≢ t) × IsOpenTo old u e
  was_open u e h = elim (set_cases old.ends.items t u None (Some e) (ap (λ (os : List (Option ℕ)). slice_get os u) (sym opens) ∙ h)) [
    | inl k ↦ absurd (let clash : Some e ≡ None = k.1 in cc)
    | inr k ↦ k
  ]

  other_closed : (u q : ℕ) → u ≢ t → IsClosed old u q → IsClosed new u q
  other_closed u q apart h = record { spans = h.spans; at = ap (λ (ls : List (List (ℕ × ℕ))). slice_get ls u) lists ∙ slice_get-set_other old.lists.items t u after apart ∙ h.at; covers = h.covers }

  -- the spans that it has now
  now_closed : (u q : ℕ) → u ≡ t → Covers after q → IsClosed new u q
  now_closed u q same c = record {
    spans = after;
    at = ap (λ (ls : List (List (ℕ × ℕ))). slice_get ls u) lists ∙ ap (slice_get (set old.lists.items t after)) same ∙ slice_get-set_same old.lists.items t after (slice_get_within old.lists.items t before at);
    covers = c;
  }

  had_closed : (u q : ℕ) → IsClosed new u q → ((u ≡ t) × Covers after q) ⊎ IsClosed old u q
  had_closed u q h = elim (set_cases old.lists.items t u after h.spans (ap (λ (ls : List (List (ℕ × ℕ))). slice_get ls u) (sym lists) ∙ h.at)) [
    | inl k ↦ inl (k.0, subst (λ (ss : List (ℕ × ℕ)). Covers ss q) k.1 h.covers)
    | inr k ↦ inr (record { spans = h.spans; at = k.1; covers = h.covers })
  ]

  pub close_marks : (u q : ℕ) → Marked new u q ↔ Marked old u q
  close_marks u q = (
    λ h. elim h [
      | inl c ↦ elim (had_closed u q c) [
        | inl k ↦ elim ((covers q).0 k.1) [
          | inl b ↦ inl (record { spans = before; at = ap (slice_get old.lists.items) k.0 ∙ at; covers = b })
          | inr b ↦ inr (record { end = end; opens = subst (λ (n : ℕ). IsOpenTo old n end) (sym k.0) is; low = b.0; high = b.1 })
        ]
        | inr k ↦ inl k
      ]
      | inr a ↦ let low = a.low in inr (record { end = a.end; opens = (was_open u a.end a.opens).1; low = omega (arith, low, place); high = a.high })
    ],
    λ h. elim (cases_eq u t) [
      | inl same ↦ elim h [
        | inl c ↦
            let its : c.spans ≡ before = same_Some c.spans before (sym c.at ∙ ap (slice_get old.lists.items) same ∙ at) in
            inl (now_closed u q same ((covers q).1 (inl (subst (λ (ss : List (ℕ × ℕ)). Covers ss q) its c.covers))))
        | inr a ↦
            let high = a.high in
            let its : a.end ≡ end = same_Some a.end end (same_Some (Some a.end) (Some end) (sym a.opens ∙ ap (slice_get old.ends.items) same ∙ is)) in
            inl (now_closed u q same ((covers q).1 (inr (a.low, omega (arith, high, its)))))
      ]
      | inr apart ↦ elim h [
        | inl c ↦ inl (other_closed u q apart c)
        | inr a ↦ let low = a.low in inr (record { end = a.end; opens = other_open u a.end apart a.opens; low = omega (arith, low, place); high = a.high })
      ]
    ],
  )

-- one that is not open
pub shut_opens : (old : Walk) (t : ℕ) → slice_get old.ends.items t ≡ Some None → (u : ℕ) → IsOpen old u ↔ (IsOpen old u × (u ≢ t))
shut_opens old t is u = (λ h. (h, λ same. let clash : Some (Some h.0) ≡ Some None = sym h.1 ∙ ap (slice_get old.ends.items) same ∙ is in cc), λ h. h.0)
