-- The registers that are taken for a temporary are those of temporaries that have got one and interfere.
use Rattle.std.proofs.Common.{◌≡◌, ◌≢◌, ◌⊎◌, ℕ, ◌<◌, ◌==◌, ◌&&◌, Bool, true, List, [], ◌∷◌, sym, ap, subst, ◌∙◌, inl, inr}
use Rattle.std.specs.Prelude.{None, Some, slice_get, slice_index, Contains, ◌↔◌}
use Rattle.std.proofs.lemmas.Bool.{or_cases, or_left, or_right, and_from, eqb-true, eq-eqb}
use Rattle.pw_files.proofs.Standing.{Has, contains_by}
use Rattle.pw_flow.specs.Outline.{Outline}
use Rattle.pw_live.specs.Liveness.{is_live_in}
use Rattle.pw_live.specs.Points.{Point, points, lives}
use Rattle.pw_live.specs.Interference.{written_beside, starts_beside, interfere}
use Rattle.pw_live_spans.specs.LivePoints.{LivesFrom}
use Rattle.pw_alloc_masks.specs.Masks.{HasRegister}
use Rattle.pw_alloc_taken.specs.Masks.{IsMadeBeside, IsOccupiedBehind}
use Rattle.pw_alloc_temps.specs.Registers.{is_taken, register_of}
use Rattle.pw_alloc_taken.specs.Knowing.{AreFacts, AreGiven}
use Rattle.pw_alloc_taken.specs.declared.facts.Facts.{Facts}
use Rattle.pw_alloc_taken.specs.declared.given.Given.{Given}
use Rattle.pw_alloc_taken.proofs.Looking.{has_register}
use Rattle.pw_live_held.proofs.Holding.{and_both}
use Rattle.pw_alloc_taken.proofs.Besides.{beside_at, at_beside, starts, Meets, interferes, interfering}

-- ---- the definition, by what each has

abbrev pub Takes : Outline → List (ℕ × ℕ) → ℕ → ℕ → Type 0
Takes f gs t r = (u : ℕ) × (register_of gs u ≡ Some r) × (interfere f t u ≡ true)

taker : (f : Outline) (gs : List (ℕ × ℕ)) (t r : ℕ) → is_taken f gs t r ≡ true → (u : ℕ) × Contains gs (u, r) × (interfere f t u ≡ true)
taker f gs t r e = let h = by gs e in (h.0, contains_by (h.0, r) gs h.1, h.2)
  where
    by : (rest : List (ℕ × ℕ)) → is_taken f rest t r ≡ true → (u : ℕ) × Has (u, r) rest × (interfere f t u ≡ true)
    by [] e = absurd cc
    by (g ∷ rest) e = elim (or_cases ((g.1 == r) && interfere f t g.0) (is_taken f rest t r) e) [
      | inl h ↦ let both = and_both (g.1 == r) (interfere f t g.0) h in (g.0, inl (ap (λ (n : ℕ). (g.0, n)) (eqb-true g.1 r both.0)), both.1)
      | inr h ↦ let k = by rest h in (k.0, inr k.1, k.2)
    ]

takes : (f : Outline) (gs : List (ℕ × ℕ)) (t r u : ℕ) → Has (u, r) gs → interfere f t u ≡ true → is_taken f gs t r ≡ true
takes f [] t r u h e = absurd h
takes f (g ∷ rest) t r u (inl same) e =
    or_left ((g.1 == r) && interfere f t g.0) (is_taken f rest t r)
    (and_from (g.1 == r) (interfere f t g.0) (eq-eqb g.1 r (ap (λ (h : ℕ × ℕ). h.1) same)) (ap (λ (h : ℕ × ℕ). interfere f t h.0) same ∙ e))
takes f (g ∷ rest) t r u (inr h) e = or_right ((g.1 == r) && interfere f t g.0) (is_taken f rest t r) (takes f rest t r u h e)

-- ---- what is looked up

module _ (f : Outline) (gs : List (ℕ × ℕ)) (given : Given) (facts : Facts) (t r : ℕ)
    (lives_at : (t q : ℕ) (p : Point) → slice_get (points f) q ≡ Some p → LivesFrom f 0 t q ↔ (lives f t p ≡ true))
    (there : (t q : ℕ) → LivesFrom f 0 t q → (p : Point) × (slice_get (points f) q ≡ Some p))
    (first : (t : ℕ) → LivesFrom f 0 t 0 ↔ (is_live_in f t 0 ≡ true))
    (known : AreFacts f facts) (has : AreGiven f gs given) where
  -- ---- of temporaries that are written where it is live

  pub made_are : (spans : List (ℕ × ℕ)) → slice_get facts.liveness.spans.lists.items t ≡ Some spans
      → IsMadeBeside given.made spans r ↔ ((u : ℕ) × (register_of gs u ≡ Some r) × (written_beside f u t ≡ true))
  made_are spans at = (
    λ h.
        let m = (has.made h.0 r).0 h.2 in
        (m.0, m.1, at_beside f lives_at there m.0 t h.0 m.2 ((known.liveness.spans.each t h.0 spans at).0 h.1)),
    λ h.
        let b = beside_at f lives_at there h.0 t h.2 in
        (b.0, (known.liveness.spans.each t b.0 spans at).1 b.2, (has.made b.0 r).1 (h.0, h.1, b.1)),
  )

  -- ---- of temporaries that are live where it is written

  pub behind_are : (row : List ℕ) → slice_get facts.definitions.items t ≡ Some row
      → IsOccupiedBehind row given.occupied.items r ↔ ((u : ℕ) × (register_of gs u ≡ Some r) × (written_beside f t u ≡ true))
  behind_are row at = (
    λ h.
        let p = h.0 in
        let made = (known.definitions t p row at).0 h.1 in
        let o = (has.occupied p r).0 h.2 in
        (o.0, o.1, at_beside f lives_at there t o.0 p made o.2),
    λ h.
        let b = beside_at f lives_at there t h.0 h.2 in
        (b.0, (known.definitions t b.0 row at).1 b.1, (has.occupied b.0 r).1 (h.0, h.1, b.2)),
  )

  -- ---- at the start

  pub first_are : (is_param is_live : Bool) (start : ℕ) → (is_param ≡ true) ↔ (t < f.params) → (is_live ≡ true) ↔ LivesFrom f 0 t 0 → start ≡ slice_index given.occupied.items 0
      → ((((is_param ≡ true) ⊎ (is_live ≡ true)) × HasRegister given.params r) ⊎ ((is_param ≡ true) × HasRegister start r))
      ↔ ((u : ℕ) × (register_of gs u ≡ Some r) × ((starts_beside f t u ≡ true) ⊎ (starts_beside f u t ≡ true)))
  first_are is_param is_live start param live is = (
    λ h. elim h [
      | inl k ↦
          let p = (has.params r).0 k.1 in
          let alive : (t < f.params) ⊎ (is_live_in f t 0 ≡ true) = elim k.0 [ inl e ↦ inl (param.0 e) | inr e ↦ inr ((first t).0 (live.0 e)) ] in
          (p.0, p.2, inr ((starts f p.0 t).1 (p.1, alive)))
      | inr k ↦
          let o = (has.occupied 0 r).0 (subst (λ (mask : ℕ). HasRegister mask r) is k.1) in
          (o.0, o.1, inl ((starts f t o.0).1 (param.0 k.0, inr ((first o.0).0 o.2))))
    ],
    λ h. elim h.2 [
      | inl e ↦
          let s = (starts f t h.0).0 e in
          elim s.1 [
            | inl low ↦ inl (inl (param.1 s.0), (has.params r).1 (h.0, low, h.1))
            | inr k ↦ inr (param.1 s.0, subst (λ (mask : ℕ). HasRegister mask r) (sym is) ((has.occupied 0 r).1 (h.0, h.1, (first h.0).1 k)))
          ]
      | inr e ↦
          let s = (starts f h.0 t).0 e in
          let alive : (is_param ≡ true) ⊎ (is_live ≡ true) = elim s.1 [ inl low ↦ inl (param.1 low) | inr k ↦ inr (live.1 ((first t).1 k)) ] in
          inl (alive, (has.params r).1 (h.0, s.0, h.1))
    ],
  )

  -- ---- together

  pub taken_is : (Beside Behind Start All : Type 0) → register_of gs t ≡ None
      → Beside ↔ ((u : ℕ) × (register_of gs u ≡ Some r) × (written_beside f u t ≡ true))
      → Behind ↔ ((u : ℕ) × (register_of gs u ≡ Some r) × (written_beside f t u ≡ true))
      → Start ↔ ((u : ℕ) × (register_of gs u ≡ Some r) × ((starts_beside f t u ≡ true) ⊎ (starts_beside f u t ≡ true)))
      → All ↔ ((Beside ⊎ Behind) ⊎ Start)
      → All ↔ (is_taken f gs t r ≡ true)
  taken_is Beside Behind Start All none beside behind start all = (
    λ h. elim (all.0 h) [
      | inl k ↦ elim k [
        | inl b ↦ let u = beside.0 b in found u.0 u.1 (inr (inl u.2))
        | inr b ↦ let u = behind.0 b in found u.0 u.1 (inl (inl u.2))
      ]
      | inr s ↦ let u = start.0 s in found u.0 u.1 (elim u.2 [ inl e ↦ inl (inr e) | inr e ↦ inr (inr e) ])
    ],
    λ e.
        let u = taker f gs t r e in
        let reg = has.once u.0 r u.1 in
        all.1 (elim (interferes f t u.0 u.2) [
          | inl k ↦ elim k [ inl w ↦ inl (inr (behind.1 (u.0, reg, w))) | inr s ↦ inr (start.1 (u.0, reg, inl s)) ]
          | inr k ↦ elim k [ inl w ↦ inl (inl (beside.1 (u.0, reg, w))) | inr s ↦ inr (start.1 (u.0, reg, inr s)) ]
        ]),
  )
    where
      found : (u : ℕ) → register_of gs u ≡ Some r → Meets f t u ⊎ Meets f u t → is_taken f gs t r ≡ true
      found u e h =
          let apart : t ≢ u = λ same. let clash : Some r ≡ None = sym e ∙ ap (register_of gs) (sym same) ∙ none in cc in
          takes f gs t r u (has_register gs u r e) (interfering f t u apart h)
