-- What can be told; and least sets of numbers below a bound, which are made step by step.
use Rattle.std.proofs.Common.{◌≡◌, ◌⊎◌, ℕ, zero, suc, Bool, true, false, ◌<◌, List, [], ◌∷◌, length, refl, sym, ap, subst, arith, inl, inr}
use Rattle.std.specs.Str.{bytes_eq}
use Rattle.std.proofs.lemmas.Bool.{cases_eq, cases_lt}
use Rattle.std.proofs.lemmas.Slice.Eq.{bytes_eq-Decides}
use Rattle.pw_files.proofs.Standing.{Has}

-- it holds, or it does not
abbrev pub Told : Type 0 → Type 0
Told P = P ⊎ (P → ⊥)

pub told_both : {P Q : Type 0} → Told P → Told Q → Told (P × Q)
told_both (inl p) (inl q) = inl (p, q)
told_both (inl p) (inr lacks) = inr (λ h. lacks h.1)
told_both (inr lacks) t = inr (λ h. lacks h.0)

pub told_either : {P Q : Type 0} → Told P → Told Q → Told (P ⊎ Q)
told_either (inl p) t = inl (inl p)
told_either (inr lacks) (inl q) = inl (inr q)
told_either (inr lacks) (inr other) = inr (λ h. elim h [ inl p ↦ lacks p | inr q ↦ other q ])

pub told_same : {P Q : Type 0} → (P → Q) → (Q → P) → Told P → Told Q
told_same forth back (inl p) = inl (forth p)
told_same forth back (inr lacks) = inr (λ q. lacks (back q))

pub told_not : {P : Type 0} → Told P → Told (P → ⊥)
told_not (inl p) = inr (λ lacks. lacks p)
told_not (inr lacks) = inl lacks

-- some item of a list is so
pub told_some : {X : Type 0} (P : X → Type 0) (xs : List X) → ((x : X) → Told (P x)) → Told ((x : X) × Has x xs × P x)
told_some P [] tell = inr (λ h. h.1)
told_some {X} P (x ∷ xs) tell = by (tell x) (told_some P xs tell)
  where
    by : Told (P x) → Told ((y : X) × Has y xs × P y) → Told ((y : X) × Has y (x ∷ xs) × P y)
    by (inl p) rest = inl (x, inl refl, p)
    by (inr lacks) (inl q) = inl (q.0, inr q.1, q.2)
    by (inr lacks) (inr none) = inr (λ h. elim h.1 [ inl e ↦ lacks (subst P (sym e) h.2) | inr k ↦ none (h.0, k, h.2) ])

-- some number below n is so
pub told_below : (n : ℕ) (P : ℕ → Type 0) → ((k : ℕ) → Told (P k)) → Told ((k : ℕ) × (k < n) × P k)
told_below zero P tell = inr (λ h. let lt = h.1 in absurd (omega (arith, lt)))
told_below (suc n) P tell = by (tell n) (told_below n P tell)
  where
    by : Told (P n) → Told ((k : ℕ) × (k < n) × P k) → Told ((k : ℕ) × (k < suc n) × P k)
    by (inl p) rest = inl (n, omega arith, p)
    by (inr lacks) (inl q) = inl (q.0, (let lt = q.1 in omega (arith, lt)), q.2)
    by (inr lacks) (inr none) = inr (λ h. elim (cases_eq h.0 n) [ inl e ↦ lacks (subst P e h.2) | inr other ↦ none (h.0, (let lt = h.1 in omega (arith, lt, other)), h.2) ])

pub told_less : (a b : ℕ) → Told (a < b)
told_less a b = elim (cases_lt a b) [ inl lt ↦ inl lt | inr le ↦ inr (λ lt. omega (arith, lt, le)) ]

pub told_has : (k : ℕ) (xs : List ℕ) → Told (Has k xs)
told_has k [] = inr (λ h. h)
told_has k (x ∷ xs) = told_either (cases_eq x k) (told_has k xs)

pub told_bytes : (a b : List ℕ) → Told (a ≡ b)
told_bytes a b = by (bytes_eq a b) refl
  where
    by : (t : Bool) → bytes_eq a b ≡ t → Told (a ≡ b)
    by true e = inl ((bytes_eq-Decides a b).0 e)
    by false e = inr (λ same. let on : bytes_eq a b ≡ true = (bytes_eq-Decides a b).1 same in cc)

-- the least number below n that is so, or none
pub record Least (n : ℕ) (P : ℕ → Type 0) : Type 0 where
  pub number : ℕ
  pub within : number < n
  pub is : P number
  pub least : (j : ℕ) → j < number → P j → ⊥

pub least_or_none : (n : ℕ) (P : ℕ → Type 0) → ((k : ℕ) → Told (P k)) → Least n P ⊎ ((k : ℕ) → k < n → P k → ⊥)
least_or_none zero P tell = inr (λ k lt p. omega (arith, lt))
least_or_none (suc n) P tell = by (least_or_none n P tell) (tell n)
  where
    by : Least n P ⊎ ((k : ℕ) → k < n → P k → ⊥) → Told (P n) → Least (suc n) P ⊎ ((k : ℕ) → k < suc n → P k → ⊥)
    by (inl l) t = inl (record { number = l.number; within = (let lt = l.within in omega (arith, lt)); is = l.is; least = l.least })
    by (inr none) (inl p) = inl (record { number = n; within = omega arith; is = p; least = none })
    by (inr none) (inr lacks) = inr (λ k lt p. elim (cases_eq k n) [ inl e ↦ lacks (subst P e p) | inr other ↦ none k (omega (arith, lt, other)) p ])

-- ---- least sets

-- the numbers below n
abbrev pub below : ℕ → List ℕ
below zero = []
below (suc n) = n ∷ below n

pub has_below : (n k : ℕ) → k < n → Has k (below n)
has_below zero k lt = absurd (omega (arith, lt))
has_below (suc n) k lt = elim (cases_eq n k) [ inl e ↦ inl e | inr other ↦ inr (has_below n k (omega (arith, lt, other))) ]

-- what follows from a set and is not in it yet, with the others that are left
record Next (R : List ℕ → ℕ → Type 0) (set left : List ℕ) : Type 0 where
  found : ℕ
  rest : List ℕ
  follows : R set found
  split : (f : ℕ) → Has f left → (found ≡ f) ⊎ Has f rest
  shorter : suc (length rest) ≡ length left

-- A set that has all below n that follow from it, and has only what is so.
pub record Closed (R : List ℕ → ℕ → Type 0) (T : ℕ → Type 0) (n : ℕ) : Type 0 where
  pub set : List ℕ
  pub sound : (f : ℕ) → Has f set → T f
  pub closed : (f : ℕ) → f < n → R set f → Has f set

module _ (R : List ℕ → ℕ → Type 0) (T : ℕ → Type 0) (tell : (set : List ℕ) (f : ℕ) → Told (R set f)) (sound : (set : List ℕ) → ((f : ℕ) → Has f set → T f) → (f : ℕ) → R set f → T f) where
  next : (set left : List ℕ) → Next R set left ⊎ ((f : ℕ) → Has f left → R set f → ⊥)
  next set [] = inr (λ f h. absurd h)
  next set (x ∷ left) = by (tell set x) (next set left)
    where
      by : Told (R set x) → Next R set left ⊎ ((f : ℕ) → Has f left → R set f → ⊥) → Next R set (x ∷ left) ⊎ ((f : ℕ) → Has f (x ∷ left) → R set f → ⊥)
      by (inl r) others = inl (record { found = x; rest = left; follows = r; split = λ f h. h; shorter = refl })
      by (inr lacks) (inl p) = inl (record {
        found = p.found;
        rest = x ∷ p.rest;
        follows = p.follows;
        split = λ f h. elim h [ inl e ↦ inr (inl e) | inr k ↦ elim (p.split f k) [ inl e ↦ inl e | inr j ↦ inr (inr j) ] ];
        shorter = ap suc p.shorter;
      })
      by (inr lacks) (inr none) = inr (λ f h r. elim h [ inl e ↦ lacks (subst (R set) (sym e) r) | inr k ↦ none f k r ])

  close : (left n : ℕ) (set others : List ℕ) → length others ≡ left → ((f : ℕ) → Has f set → T f) → ((f : ℕ) → f < n → Has f set ⊎ Has f others) → Closed R T n
  close zero n set [] e all cover = record { set = set; sound = all; closed = λ f lt r. elim (cover f lt) [ inl h ↦ h | inr k ↦ absurd k ] }
  close zero n set (x ∷ others) e all cover = absurd (omega (arith, e))
  close (suc left) n set others e all cover = elim (next set others) [
    | inl p ↦
        let short = p.shorter in
        close left n (p.found ∷ set) p.rest (omega (arith, e, short))
        (λ f h. elim h [ inl same ↦ subst T same (sound set all p.found p.follows) | inr k ↦ all f k ])
        (λ f lt. elim (cover f lt) [ inl h ↦ inl (inr h) | inr k ↦ elim (p.split f k) [ inl same ↦ inl (inl same) | inr j ↦ inr j ] ])
    | inr none ↦ record { set = set; sound = all; closed = λ f lt r. elim (cover f lt) [ inl h ↦ h | inr k ↦ absurd (none f k r) ] }
  ]

  -- the least set of numbers below n
  pub least_set : (n : ℕ) → Closed R T n
  least_set n = close (length (below n)) n [] (below n) refl (λ f h. absurd h) (λ f lt. inr (has_below n f lt))
