-- Calls, one behind the other, and calls that do not write a temporary.
use Rattle.std.proofs.Common.{◌≡◌, ◌⊎◌, ℕ, zero, suc, ◌+◌, ◌-◌, ◌≤◌, ◌<◌, not, Bool, true, false, List, [], ◌∷◌, ◌++◌, length, refl, sym, ap, subst, ◌∙◌, arith, inl, inr}
use Rattle.std.specs.Prelude.{Option, None, Some, IfSome, nat_lt, slice_get, ◌↔◌}
use Rattle.std.proofs.lemmas.Bool.{cases_eq, cases_lt, not-false, ltb-true, lt-ltb}
use Rattle.std.proofs.lemmas.Option.{same_Some}
use Rattle.pw_live.specs.Liveness.{is_that}
use Rattle.pw_live_held.specs.Makers.{IsOverCall}
use Rattle.pw_live_held.specs.Calls.{IsCall, IsLastCall, AreLastCalls}
use Rattle.pw_live_held.proofs.Holding.{not_true, that_is, is_that_one}

-- ---- the last call up to a point

pub last_here : (calls : List Bool) (p : ℕ) → IsCall calls p → IsLastCall calls 0 (p + 1) (Some p)
last_here calls p call = (omega arith, omega arith, call, λ q low high _. omega (arith, low, high))

no_call : (calls : List Bool) (p q : ℕ) → slice_get calls p ≡ Some false → q ≡ p → ¬ IsCall calls q
no_call calls p q none same call = let clash = same_Some false true (sym none ∙ ap (slice_get calls) (sym same) ∙ call) in cc

pub last_before : (calls : List Bool) (p : ℕ) (before : Option ℕ) → slice_get calls p ≡ Some false → IsLastCall calls 0 p before → IsLastCall calls 0 (p + 1) before
last_before calls p None none is = λ q low high. elim (cases_eq q p) [
  | inl same ↦ no_call calls p q none same
  | inr other ↦ is q low (omega (arith, high, other))
]
last_before calls p (Some c) none is = (
  is.0,
  (let lt = is.1 in omega (arith, lt)),
  is.2,
  λ q low high. elim (cases_eq q p) [
    | inl same ↦ no_call calls p q none same
    | inr other ↦ is.3 q low (omega (arith, high, other))
  ],
)

-- ---- one point more

pub none_yet : (calls : List Bool) (lasts : List (Option ℕ)) → lasts ≡ [] → (q : ℕ) (last : Option ℕ) → slice_get lasts q ≡ Some last → IsLastCall calls 0 (q + 1) last
none_yet calls [] is q last at = absurd cc
none_yet calls (x ∷ xs) is q last at = absurd cc

push_cases : {X : Type 0} (xs : List X) (x y : X) (q : ℕ) → slice_get (xs ++ x ∷ []) q ≡ Some y → (slice_get xs q ≡ Some y) ⊎ ((q ≡ length xs) × (x ≡ y))
push_cases [] x y zero e = inr (refl, same_Some x y e)
push_cases [] x y (suc q) e = absurd cc
push_cases (z ∷ zs) x y zero e = inl e
push_cases (z ∷ zs) x y (suc q) e = elim (push_cases zs x y q e) [ inl h ↦ inl h | inr h ↦ inr (ap suc h.0, h.1) ]

pub lasts_more : (calls : List Bool) (lasts new : List (Option ℕ)) (p : ℕ) (here : Option ℕ) → length lasts ≡ p → new ≡ lasts ++ here ∷ [] → IsLastCall calls 0 (p + 1) here
    → ((q : ℕ) (last : Option ℕ) → slice_get lasts q ≡ Some last → IsLastCall calls 0 (q + 1) last)
    → (q : ℕ) (last : Option ℕ) → slice_get new q ≡ Some last → IsLastCall calls 0 (q + 1) last
lasts_more calls lasts new p here long is now before q last at = elim (push_cases lasts here last q (ap (λ (xs : List (Option ℕ)). slice_get xs q) (sym is) ∙ at)) [
  | inl old ↦ before q last old
  | inr h ↦
      let same : q ≡ p = h.0 ∙ long in
      subst (λ (o : Option ℕ). IsLastCall calls 0 (q + 1) o) h.1 (subst (λ (n : ℕ). IsLastCall calls 0 (n + 1) here) (sym same) now)
]

-- ---- from one point on

pub before_some : (last : Option ℕ) (p from : ℕ) → last ≡ Some p → (nat_lt p from ≡ true) ↔ IfSome last (λ q. q < from)
before_some last p from is = (
  λ e. subst (λ (o : Option ℕ). IfSome o (λ q. q < from)) (sym is) (ltb-true p from e),
  λ h. let lt : p < from = subst (λ (o : Option ℕ). IfSome o (λ q. q < from)) is h in lt-ltb p from lt,
)

pub before_none : (last : Option ℕ) (from : ℕ) → last ≡ None → (true ≡ true) ↔ IfSome last (λ q. q < from)
before_none last from is = (λ _. subst (λ (o : Option ℕ). IfSome o (λ q. q < from)) (sym is) tt, λ _. refl)

pub last_from : (calls : List Bool) (from to : ℕ) (last : Option ℕ) → ¬ IfSome last (λ p. p < from) → IsLastCall calls 0 to last → IsLastCall calls from to last
last_from calls from to None behind is = absurd (behind tt)
last_from calls from to (Some p) behind is = (
  elim (cases_lt p from) [ inl lt ↦ absurd (behind lt) | inr le ↦ le ],
  is.1,
  is.2,
  is.3,
)

pub none_from : (calls : List Bool) (from to : ℕ) (last : Option ℕ) → IfSome last (λ p. p < from) → IsLastCall calls 0 to last → IsLastCall calls from to None
none_from calls from to None before is = λ q low high. is q (omega arith) high
none_from calls from to (Some p) before is = λ q low high. let lt : p < from = before in is.3 q (omega (arith, low, lt)) high

pub last_at : (calls : List Bool) (lasts : List (Option ℕ)) (to : ℕ) (last : Option ℕ) → AreLastCalls calls lasts → 0 < to → slice_get lasts (to - 1) ≡ Some last → IsLastCall calls 0 to last
last_at calls lasts to last known some at =
    let same : to - 1 + 1 ≡ to = omega (arith, some) in
    subst (λ (n : ℕ). IsLastCall calls 0 n last) same (known.each (to - 1) last at)

-- ---- calls that do not write a temporary

pub other_call : (makers : List (Option ℕ)) (calls : List Bool) (t p : ℕ) (m : Option ℕ) → slice_get makers p ≡ Some m → IsCall calls p → not (is_that m t) ≡ true → IsOverCall makers calls t p
other_call makers calls t p m made call other = (
  call,
  λ same.
      let its : m ≡ Some t = same_Some m (Some t) (sym made ∙ same) in
      let one = is_that_one m t its in
      let none = not_true (is_that m t) other in
      cc,
)

pub own_call : (makers : List (Option ℕ)) (calls : List Bool) (t p : ℕ) (m : Option ℕ) → slice_get makers p ≡ Some m → not (is_that m t) ≡ false → ¬ IsOverCall makers calls t p
own_call makers calls t p m made own over = over.1 (made ∙ ap Some (that_is m t (not-false (is_that m t) own)))

-- behind the last call that is left there is none
pub none_more : (makers : List (Option ℕ)) (calls : List Bool) (t from to p end : ℕ) → IsLastCall calls from to (Some p) → ¬ IsOverCall makers calls t p
    → ((q : ℕ) → to ≤ q → q < end → ¬ IsOverCall makers calls t q) → (q : ℕ) → p ≤ q → q < end → ¬ IsOverCall makers calls t q
none_more makers calls t from to p end last own before q low high over = elim (cases_lt q to) [
  | inr past ↦ before q past high over
  | inl lt ↦ elim (cases_eq q p) [
    | inl same ↦ own (subst (IsOverCall makers calls t) same over)
    | inr other ↦ last.3 q (omega (arith, low, other)) lt over.0
  ]
]

pub found_one : (makers : List (Option ℕ)) (calls : List Bool) (t from to p end : ℕ) → IsLastCall calls from to (Some p) → to ≤ end → IsOverCall makers calls t p
    → (true ≡ true) ↔ ((q : ℕ) × (from ≤ q) × (q < end) × IsOverCall makers calls t q)
found_one makers calls t from to p end last le over = (λ _. (p, last.0, (let lt = last.1 in omega (arith, lt, le)), over), λ _. refl)

pub found_none : (makers : List (Option ℕ)) (calls : List Bool) (t from to end : ℕ) → IsLastCall calls from to None
    → ((q : ℕ) → to ≤ q → q < end → ¬ IsOverCall makers calls t q) → (false ≡ true) ↔ ((q : ℕ) × (from ≤ q) × (q < end) × IsOverCall makers calls t q)
found_none makers calls t from to end none before = (
  λ e. absurd cc,
  λ w. absurd (elim (cases_lt w.0 to) [
    | inr past ↦ before w.0 past w.2 w.3
    | inl lt ↦ none w.0 w.1 lt w.3.0
  ]),
)
