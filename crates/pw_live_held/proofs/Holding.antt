-- What is held over a call, by the numbers of points.
use Rattle.std.proofs.Common.{◌≡◌, ℕ, zero, suc, ◌&&◌, not, Bool, true, false, List, [], ◌∷◌, map, refl, sym, ap, ◌∙◌, inl, inr}
use Rattle.std.specs.Prelude.{Option, None, Some, option_map, slice_get, ◌↔◌}
use Rattle.std.specs.List.{list_any}
use Rattle.std.proofs.lemmas.Bool.{cases_Bool, or_cases, or_left, or_right, and_from, eqb-true, eq-eqb}
use Rattle.std.proofs.lemmas.Option.{same_Some, slice_get-map}
use Rattle.pw_flow.specs.Outline.{Act, Outline}
use Rattle.pw_live.specs.Liveness.{is_that}
use Rattle.pw_live.specs.Points.{Point, points, lives, writes, is_call}
use Rattle.pw_live.specs.Interference.{is_held}
use Rattle.pw_live_spans.specs.LivePoints.{LivesFrom}
use Rattle.pw_live_held.specs.Makers.{made_by, maker, calls}

-- ---- tests of lists, by place

pub record Passing {X : Type 0} (p : X → Bool) (xs : List X) : Type 0 where
  pub place : ℕ
  pub item : X
  pub at : slice_get xs place ≡ Some item
  pub passes : p item ≡ true

pub passing : {X : Type 0} (p : X → Bool) (xs : List X) → list_any p xs ≡ true → Passing p xs
passing p [] e = absurd cc
passing p (x ∷ xs) e = elim (or_cases (p x) (list_any p xs) e) [
  | inl h ↦ record { place = 0; item = x; at = refl; passes = h }
  | inr h ↦ let r = passing p xs h in record { place = suc r.place; item = r.item; at = r.at; passes = r.passes }
]

pub passed : {X : Type 0} (p : X → Bool) (xs : List X) (k : ℕ) (x : X) → slice_get xs k ≡ Some x → p x ≡ true → list_any p xs ≡ true
passed p [] k x at e = absurd cc
passed p (y ∷ ys) zero x at e = or_left (p y) (list_any p ys) (ap p (same_Some y x at) ∙ e)
passed p (y ∷ ys) (suc k) x at e = or_right (p y) (list_any p ys) (passed p ys k x at e)

pub and_both : (x y : Bool) → (x && y) ≡ true → (x ≡ true) × (y ≡ true)
and_both true y e = (refl, e)
and_both false y e = absurd cc

pub not_true : (x : Bool) → not x ≡ true → x ≡ false
not_true true e = absurd cc
not_true false e = refl

-- ---- what an operation writes

pub that_is : (o : Option ℕ) (t : ℕ) → is_that o t ≡ true → o ≡ Some t
that_is None t e = absurd cc
that_is (Some d) t e = ap Some (eqb-true d t e)

pub is_that_one : (o : Option ℕ) (t : ℕ) → o ≡ Some t → is_that o t ≡ true
is_that_one o t e = ap (λ (p : Option ℕ). is_that p t) e ∙ eq-eqb t t refl

pub made : (o : Option Act) (t : ℕ) → writes o t ≡ is_that (made_by o) t
made None t = refl
made (Some a) t = refl

-- ---- a temporary at the points of a function

module _ (f : Outline)
    (lives_at : (t q : ℕ) (p : Point) → slice_get (points f) q ≡ Some p → LivesFrom f 0 t q ↔ (lives f t p ≡ true))
    (there : (t q : ℕ) → LivesFrom f 0 t q → (p : Point) × (slice_get (points f) q ≡ Some p)) where
  abbrev pub IsMade : ℕ → ℕ → Type 0
  IsMade q d = slice_get (map maker (points f)) q ≡ Some (Some d)

  pub maker_at : (q : ℕ) (p : Point) → slice_get (points f) q ≡ Some p → slice_get (map maker (points f)) q ≡ Some (maker p)
  maker_at q p at = slice_get-map maker (points f) q ∙ ap (option_map maker) at

  pub calls_at : (q : ℕ) (p : Point) → slice_get (points f) q ≡ Some p → slice_get (map calls (points f)) q ≡ Some (calls p)
  calls_at q p at = slice_get-map calls (points f) q ∙ ap (option_map calls) at

  -- ---- held over a call

  pub held_at : (t : ℕ) → is_held f t ≡ true → (q : ℕ) × LivesFrom f 0 t q × (slice_get (map calls (points f)) q ≡ Some true) × ¬ IsMade q t
  held_at t e =
      let r = passing (λ p. is_call p.before && (not (writes p.before t) && lives f t p)) (points f) e in
      let one = and_both (is_call r.item.before) (not (writes r.item.before t) && lives f t r.item) r.passes in
      let two = and_both (not (writes r.item.before t)) (lives f t r.item) one.1 in (
        r.place,
        (lives_at t r.place r.item r.at).1 two.1,
        calls_at r.place r.item r.at ∙ ap Some one.0,
        λ is.
            let makes : maker r.item ≡ Some t = same_Some (maker r.item) (Some t) (sym (maker_at r.place r.item r.at) ∙ is) in
            let yes_it_does : writes r.item.before t ≡ true = made r.item.before t ∙ is_that_one (maker r.item) t makes in
            let it_does_not = not_true (writes r.item.before t) two.0 in
            cc,
      )

  pub at_held : (t q : ℕ) → LivesFrom f 0 t q → slice_get (map calls (points f)) q ≡ Some true → ¬ IsMade q t → is_held f t ≡ true
  at_held t q live call other =
      let p = there t q live in
      let is : calls p.0 ≡ true = same_Some (calls p.0) true (sym (calls_at q p.0 p.1) ∙ call) in
      let none : writes p.0.before t ≡ false = elim (cases_Bool (writes p.0.before t)) [
        | inl w ↦ absurd (other (maker_at q p.0 p.1 ∙ ap Some (that_is (maker p.0) t (sym (made p.0.before t) ∙ w))))
        | inr w ↦ w
      ] in
      passed (λ (x : Point). is_call x.before && (not (writes x.before t) && lives f t x)) (points f) q p.0 p.1
      (and_from (is_call p.0.before) (not (writes p.0.before t) && lives f t p.0) is
      (and_from (not (writes p.0.before t)) (lives f t p.0) (ap not none) ((lives_at t q p.0 p.1).0 live)))
