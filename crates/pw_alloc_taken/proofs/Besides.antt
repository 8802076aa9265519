-- Where a temporary is written beside another one that is live, by the numbers of points.
use Rattle.std.proofs.Common.{◌≡◌, ◌≢◌, ◌⊎◌, ℕ, ◌<◌, ◌==◌, ◌&&◌, ◌||◌, not, true, false, sym, ap, ◌∙◌, inl, inr}
use Rattle.std.specs.Prelude.{Some, nat_lt, slice_get, ◌↔◌}
use Rattle.std.proofs.lemmas.Bool.{cases_Bool, or_cases, or_left, or_right, and_from, eqb-true, ltb-true, lt-ltb}
use Rattle.std.proofs.lemmas.Option.{same_Some}
use Rattle.pw_flow.specs.Outline.{Outline}
use Rattle.pw_live.specs.Liveness.{is_live_in}
use Rattle.pw_live.specs.Points.{Point, points, lives, writes}
use Rattle.pw_live.specs.Interference.{written_beside, starts_beside, overwrites, interfere}
use Rattle.pw_live_spans.specs.LivePoints.{LivesFrom}
use Rattle.pw_live_held.specs.Makers.{maker}
use Rattle.pw_live_held.proofs.Holding.{passing, passed, and_both, that_is, is_that_one, made, maker_at}
use Rattle.pw_alloc_taken.specs.Knowing.{IsMade}

-- ---- two temporaries

module _ (f : Outline)
    (lives_at : (t q : ℕ) (p : Point) → slice_get (points f) q ≡ Some p → LivesFrom f 0 t q ↔ (lives f t p ≡ true))
    (there : (t q : ℕ) → LivesFrom f 0 t q → (p : Point) × (slice_get (points f) q ≡ Some p)) where
  pub beside_at : (d t : ℕ) → written_beside f d t ≡ true → (q : ℕ) × IsMade f q d × LivesFrom f 0 t q
  beside_at d t e =
      let r = passing (λ p. writes p.before d && lives f t p) (points f) e in
      let both = and_both (writes r.item.before d) (lives f t r.item) r.passes in (
        r.place,
        maker_at f lives_at there r.place r.item r.at ∙ ap Some (that_is (maker r.item) d (sym (made r.item.before d) ∙ both.0)),
        (lives_at t r.place r.item r.at).1 both.1,
      )

  pub at_beside : (d t q : ℕ) → IsMade f q d → LivesFrom f 0 t q → written_beside f d t ≡ true
  at_beside d t q is live =
      let p = there t q live in
      let makes : maker p.0 ≡ Some d = same_Some (maker p.0) (Some d) (sym (maker_at f lives_at there q p.0 p.1) ∙ is) in
      passed (λ (x : Point). writes x.before d && lives f t x) (points f) q p.0 p.1
      (and_from (writes p.0.before d) (lives f t p.0) (made p.0.before d ∙ is_that_one (maker p.0) d makes) ((lives_at t q p.0 p.1).0 live))

-- ---- at the start

pub starts : (f : Outline) (d t : ℕ) → (starts_beside f d t ≡ true) ↔ ((d < f.params) × ((t < f.params) ⊎ (is_live_in f t 0 ≡ true)))
starts f d t = (
  λ e.
      let both = and_both (nat_lt d f.params) (nat_lt t f.params || is_live_in f t 0) e in (
        ltb-true d f.params both.0,
        elim (or_cases (nat_lt t f.params) (is_live_in f t 0) both.1) [ inl h ↦ inl (ltb-true t f.params h) | inr h ↦ inr h ],
      ),
  λ h.
      and_from (nat_lt d f.params) (nat_lt t f.params || is_live_in f t 0) (lt-ltb d f.params h.0)
      (elim h.1 [ inl k ↦ or_left (nat_lt t f.params) (is_live_in f t 0) (lt-ltb t f.params k) | inr k ↦ or_right (nat_lt t f.params) (is_live_in f t 0) k ]),
)

-- ---- interference

abbrev pub Meets : Outline → ℕ → ℕ → Type 0
Meets f d t = (written_beside f d t ≡ true) ⊎ (starts_beside f d t ≡ true)

pub interferes : (f : Outline) (a b : ℕ) → interfere f a b ≡ true → Meets f a b ⊎ Meets f b a
interferes f a b e =
    let both = and_both (not (a == b)) (overwrites f a b || overwrites f b a) e in
    elim (or_cases (overwrites f a b) (overwrites f b a) both.1) [
      | inl h ↦ inl (or_cases (written_beside f a b) (starts_beside f a b) h)
      | inr h ↦ inr (or_cases (written_beside f b a) (starts_beside f b a) h)
    ]

meets : (f : Outline) (d t : ℕ) → Meets f d t → overwrites f d t ≡ true
meets f d t (inl h) = or_left (written_beside f d t) (starts_beside f d t) h
meets f d t (inr h) = or_right (written_beside f d t) (starts_beside f d t) h

pub interfering : (f : Outline) (a b : ℕ) → a ≢ b → Meets f a b ⊎ Meets f b a → interfere f a b ≡ true
interfering f a b apart h =
    let differ : (a == b) ≡ false = elim (cases_Bool (a == b)) [ inl e ↦ absurd (apart (eqb-true a b e)) | inr e ↦ e ] in
    and_from (not (a == b)) (overwrites f a b || overwrites f b a) (ap not differ) (elim h [
      | inl k ↦ or_left (overwrites f a b) (overwrites f b a) (meets f a b k)
      | inr k ↦ or_right (overwrites f a b) (overwrites f b a) (meets f b a k)
    ])
