-- A register that is given: what is known of all that has been given.
use Rattle.std.proofs.Common.{◌≡◌, ◌≢◌, ◌⊎◌, ℕ, zero, suc, ◌<◌, ◌==◌, Bool, false, List, [], ◌∷◌, length, set, replicate, refl, sym, ap, subst, ◌∙◌, arith, inl, inr}
use Rattle.std.specs.Prelude.{Option, None, Some, if◌then◌else◌, slice_get, slice_index, ◌↔◌}
use Rattle.std.proofs.lemmas.Bool.{cases_eq, cases_Bool, eqb-true, eq-eqb}
use Rattle.std.proofs.lemmas.Option.{same_Some}
use Rattle.pw_fix.proofs.Places.{slice_get-set_same, slice_get-set_other}
use Rattle.pw_files.proofs.Standing.{Has, has_by, contains_by}
use Rattle.pw_flow.specs.Outline.{Outline}
use Rattle.pw_live_spans.specs.Spans.{Covers}
use Rattle.pw_live_spans.specs.LivePoints.{LivesFrom}
use Rattle.pw_alloc_masks.specs.Masks.{HasRegister}
use Rattle.pw_alloc_masks.specs.Sets.{HasAt}
use Rattle.pw_alloc_masks.proofs.Joining.{zero_mask}
use Rattle.pw_alloc_temps.specs.Registers.{register_of}
use Rattle.pw_alloc_taken.specs.Knowing.{IsMade, AreGiven}
use Rattle.pw_alloc_taken.specs.declared.given.Given.{Given}

-- ---- what is looked up in a list with one more

own : (gs : List (ℕ × ℕ)) (t r : ℕ) → register_of ((t, r) ∷ gs) t ≡ Some r
own gs t r = ap (λ (b : Bool). if b then Some r else register_of gs t) (eq-eqb t t refl)

other : (gs : List (ℕ × ℕ)) (t r u : ℕ) → u ≢ t → register_of ((t, r) ∷ gs) u ≡ register_of gs u
other gs t r u apart =
    let differ : (t == u) ≡ false = elim (cases_Bool (t == u)) [ inl e ↦ absurd (apart (sym (eqb-true t u e))) | inr e ↦ e ] in
    ap (λ (b : Bool). if b then Some r else register_of gs u) differ

looked : (gs : List (ℕ × ℕ)) (t r u k : ℕ) → register_of ((t, r) ∷ gs) u ≡ Some k → ((u ≡ t) × (k ≡ r)) ⊎ ((u ≢ t) × (register_of gs u ≡ Some k))
looked gs t r u k e = elim (cases_eq u t) [
  | inl same ↦ inl (same, same_Some k r (sym e ∙ ap (register_of ((t, r) ∷ gs)) same ∙ own gs t r))
  | inr apart ↦ inr (apart, sym (other gs t r u apart) ∙ e)
]

-- ---- one more

module _ (f : Outline) (gs : List (ℕ × ℕ)) (old new : Given) (t r : ℕ) (spans : List (ℕ × ℕ))
    (temp : t < f.temps) (size : length old.registers.items ≡ f.temps) (none : register_of gs t ≡ None)
    (lives : (q : ℕ) → Covers spans q ↔ LivesFrom f 0 t q)
    (registers : new.registers.items ≡ set old.registers.items t (Some r))
    (occupied : (p k : ℕ) → HasRegister (slice_index new.occupied.items p) k ↔ (HasRegister (slice_index old.occupied.items p) k ⊎ (Covers spans p × (k ≡ r))))
    (made : (p k : ℕ) → HasAt new.made p k ↔ (HasAt old.made p k ⊎ (IsMade f p t × (k ≡ r))))
    (params : (k : ℕ) → HasRegister new.params k ↔ (HasRegister old.params k ⊎ ((t < f.params) × (k ≡ r))))
    (has : AreGiven f gs old) where
  abbrev all : List (ℕ × ℕ)
  all = (t, r) ∷ gs

  -- what has been given before is of another temporary
  is_other : (u k : ℕ) → register_of gs u ≡ Some k → u ≢ t
  is_other u k e same = let clash : Some k ≡ None = sym e ∙ ap (register_of gs) same ∙ none in cc

  stays : (u k : ℕ) → register_of gs u ≡ Some k → register_of all u ≡ Some k
  stays u k e = other gs t r u (is_other u k e) ∙ e

  is_now : (k : ℕ) → k ≡ r → register_of all t ≡ Some k
  is_now k e = own gs t r ∙ ap Some (sym e)

  once_more : (u k : ℕ) → Has (u, k) all → register_of all u ≡ Some k
  once_more u k (inl e) = subst (λ (g : ℕ × ℕ). register_of all g.0 ≡ Some g.1) e (own gs t r)
  once_more u k (inr h) = stays u k (has.once u k (contains_by (u, k) gs h))

  reads_more : (u : ℕ) → u < f.temps → slice_get new.registers.items u ≡ Some (register_of all u)
  reads_more u lt = ap (λ (rs : List (Option ℕ)). slice_get rs u) registers ∙ elim (cases_eq u t) [
    | inl same ↦
        ap (slice_get (set old.registers.items t (Some r))) same ∙ slice_get-set_same old.registers.items t (Some r) (omega (arith, temp, size))
        ∙ ap Some (sym (ap (register_of all) same ∙ own gs t r))
    | inr apart ↦ slice_get-set_other old.registers.items t u (Some r) apart ∙ has.registers u lt ∙ ap Some (sym (other gs t r u apart))
  ]

  occupied_more : (p k : ℕ) → HasRegister (slice_index new.occupied.items p) k ↔ ((u : ℕ) × (register_of all u ≡ Some k) × LivesFrom f 0 u p)
  occupied_more p k = (
    λ h. elim ((occupied p k).0 h) [
      | inl o ↦ let u = (has.occupied p k).0 o in (u.0, stays u.0 k u.1, u.2)
      | inr c ↦ (t, is_now k c.1, (lives p).0 c.0)
    ],
    λ h. (occupied p k).1 (elim (looked gs t r h.0 k h.1) [
      | inl s ↦ inr ((lives p).1 (subst (λ (u : ℕ). LivesFrom f 0 u p) s.0 h.2), s.1)
      | inr s ↦ inl ((has.occupied p k).1 (h.0, s.1, h.2))
    ]),
  )

  made_more : (p k : ℕ) → HasAt new.made p k ↔ ((u : ℕ) × (register_of all u ≡ Some k) × IsMade f p u)
  made_more p k = (
    λ h. elim ((made p k).0 h) [
      | inl o ↦ let u = (has.made p k).0 o in (u.0, stays u.0 k u.1, u.2)
      | inr c ↦ (t, is_now k c.1, c.0)
    ],
    λ h. (made p k).1 (elim (looked gs t r h.0 k h.1) [
      | inl s ↦ inr (subst (IsMade f p) s.0 h.2, s.1)
      | inr s ↦ inl ((has.made p k).1 (h.0, s.1, h.2))
    ]),
  )

  params_more : (k : ℕ) → HasRegister new.params k ↔ ((u : ℕ) × (u < f.params) × (register_of all u ≡ Some k))
  params_more k = (
    λ h. elim ((params k).0 h) [
      | inl o ↦ let u = (has.params k).0 o in (u.0, u.1, stays u.0 k u.2)
      | inr c ↦ (t, c.0, is_now k c.1)
    ],
    λ h. (params k).1 (elim (looked gs t r h.0 k h.2) [
      | inl s ↦ inr (subst (λ (u : ℕ). u < f.params) s.0 h.1, s.1)
      | inr s ↦ inl ((has.params k).1 (h.0, h.1, s.1))
    ]),
  )

  pub given_more : AreGiven f all new
  given_more = record {
    once = λ u k c. once_more u k (has_by (u, k) all c);
    registers = reads_more;
    occupied = occupied_more;
    made = made_more;
    params = params_more;
  }

-- ---- none yet

abbrev pub nothing : Option ℕ
nothing = None

none_at : (n u : ℕ) → u < n → slice_get (replicate n None) u ≡ Some nothing
none_at zero u lt = absurd (omega (arith, lt))
none_at (suc n) zero lt = refl
none_at (suc n) (suc u) lt = none_at n u (omega (arith, lt))

zeros : (n p : ℕ) → slice_index (replicate n 0) p ≡ 0
zeros zero p = refl
zeros (suc n) zero = refl
zeros (suc n) (suc p) = zeros n p

pub given_none : (f : Outline) (v : Given) (points : ℕ) → v.registers.items ≡ replicate f.temps None → v.occupied.items ≡ replicate points 0 → v.params ≡ 0 → ((p k : ℕ) → ¬ HasAt v.made p k) → AreGiven f [] v
given_none f v points registers occupied params made = record {
  once = λ u k c. absurd (let lt : c.0 < 0 = c.1 in omega (arith, lt));
  registers = λ u lt. ap (λ (rs : List (Option ℕ)). slice_get rs u) registers ∙ none_at f.temps u lt;
  occupied = λ p k. (
    λ h. absurd (zero_mask k (subst (λ (m : ℕ). HasRegister m k) (ap (λ (ms : List ℕ). slice_index ms p) occupied ∙ zeros points p) h)),
    λ h. absurd (let clash = h.1 in cc),
  );
  made = λ p k. (λ h. absurd (made p k h), λ h. absurd (let clash = h.1 in cc));
  params = λ k. (λ h. absurd (zero_mask k (subst (λ (m : ℕ). HasRegister m k) params h)), λ h. absurd (let clash = h.2 in cc));
}
