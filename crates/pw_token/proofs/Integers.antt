-- `integer_len` is the length of the longest integer constant at the beginning.
use Rattle.std.proofs.Common.{◌≡◌, ◌≢◌, ℕ, suc, ◌+◌, ◌<◌, ◌≤◌, ◌⊎◌, inl, inr, Bool, true, false, cond, ◌&&◌, ◌||◌, eqb, List, [], ◌∷◌, ◌++◌, length, drop, slice_index, refl, ap, arith, sym, ◌∙◌, subst, append_assoc, length-append}
use Rattle.std.proofs.lemmas.Bool.{eqb-true, eqb-false}
use Rattle.std.proofs.lemmas.Bool.Decides.{nat_tests}
use Rattle.std.proofs.lemmas.List.{drop_at}
use Rattle.pw_token.proofs.Runs.{Begins, begins-drop, run-front, run-in, run-reaches, run-stops, Ends, either, some-all}
use Rattle.pw_token.proofs.ByteFacts.{and-split, and-left, and-right, or-split, octal-not_x, octal-hexadecimal, digit-hexadecimal, u-not_hexadecimal, l-not_hexadecimal, u-not_x, l-not_x}
use Rattle.pw_token.specs.Bytes.{is_in, is_either, AllIn, SomeIn, is_u, is_l}
use Rattle.pw_token.specs.Scanning.{run, integer_suffix_len, begins_hexadecimal, digits_len, integer_len}
use Rattle.pw_token.specs.Spelling.{IsInteger, IsDecimal, IsOctal, IsHexadecimal, IsIntegerSuffix}
use Rattle.pw_token.specs.declared.bytes.Class.TheVariants.{Digit, OctalDigit, HexDigit}

-- ---- suffixes

suffix-split : (a b : ℕ) (t : List ℕ) → Begins IsIntegerSuffix (integer_suffix_len (a ∷ b ∷ t)) (a ∷ b ∷ t)
unfolding integer_suffix_len
suffix-split a b t =
    elim (either (is_u a)) [
      | inl u ↦ elim (either (is_l b)) [
        | inl l ↦ record { front = a ∷ b ∷ []; rest = t; split = refl; len = rw (u, l) refl; holds = rw (u, l) refl }
        | inr n ↦ record { front = a ∷ []; rest = b ∷ t; split = refl; len = rw (u, n) refl; holds = rw u refl }
      ]
      | inr m ↦ elim (either (is_l a)) [
        | inl l ↦ elim (either (is_u b)) [
          | inl u ↦ record { front = a ∷ b ∷ []; rest = t; split = refl; len = rw (m, l, u) refl; holds = rw (m, l, u) refl }
          | inr n ↦ record { front = a ∷ []; rest = b ∷ t; split = refl; len = rw (m, l, n) refl; holds = rw (m, l) refl }
        ]
        | inr n ↦ record { front = []; rest = a ∷ b ∷ t; split = refl; len = rw (m, n) refl; holds = tt }
      ]
    ]

suffix-front : (t : List ℕ) → Begins IsIntegerSuffix (integer_suffix_len t) t
unfolding integer_suffix_len
suffix-front [] = record { front = []; rest = []; split = refl; len = refl; holds = tt }
suffix-front (a ∷ []) =
    elim (either (is_u a)) [
      | inl u ↦ record { front = a ∷ []; rest = []; split = refl; len = rw u refl; holds = rw u refl }
      | inr m ↦ elim (either (is_l a)) [
        | inl l ↦ record { front = a ∷ []; rest = []; split = refl; len = rw (m, l) refl; holds = rw (m, l) refl }
        | inr n ↦ record { front = []; rest = a ∷ []; split = refl; len = rw (m, n) refl; holds = tt }
      ]
    ]
suffix-front (a ∷ b ∷ t) = suffix-split a b t

one-bound : (u l l2 u2 : Bool) → (u || l) ≡ true → 1 ≤ cond u (cond l2 2 1) (cond l (cond u2 2 1) 0)
one-bound true l true u2 h = omega arith
one-bound true l false u2 h = omega arith
one-bound false true l2 true h = omega arith
one-bound false true l2 false h = omega arith
one-bound false false l2 u2 h = cc

two-bound : (u l l2 u2 : Bool) → ((u && l2) || (l && u2)) ≡ true → 2 ≤ cond u (cond l2 2 1) (cond l (cond u2 2 1) 0) ⊎ ((u ≡ true) × (l ≡ true))
two-bound true true l2 u2 h = inr (refl, refl)
two-bound true false true u2 h = inl (omega arith)
two-bound true false false u2 h = cc
two-bound false true l2 true h = inl (omega arith)
two-bound false true l2 false h = cc
two-bound false false l2 u2 h = cc

u-not_l : (a : ℕ) → is_u a ≡ true → is_l a ≡ true → ⊥
u-not_l a u l = grind (arith, nat_tests)

suffix-reaches : (s r : List ℕ) → IsIntegerSuffix s → length s ≤ integer_suffix_len (s ++ r)
unfolding integer_suffix_len
suffix-reaches [] r h = omega arith
suffix-reaches (a ∷ []) r h = one-bound (is_u a) (is_l a) (is_l (slice_index r 0)) (is_u (slice_index r 0)) h
suffix-reaches (a ∷ b ∷ []) r h =
    elim (two-bound (is_u a) (is_l a) (is_l b) (is_u b) h) [ inl e ↦ e | inr e ↦ absurd (u-not_l a e.0 e.1) ]
suffix-reaches (a ∷ b ∷ c ∷ s) r h = absurd h

-- ---- digits

abbrev pub AreDigits : List ℕ → Type 0
AreDigits s = IsDecimal s ⊎ (IsOctal s ⊎ IsHexadecimal s)

-- what does not go on with the digits
abbrev pub StopsDigits : List ℕ → Type 0
StopsDigits [] = Unit {0}
StopsDigits (b ∷ r) = (is_in HexDigit b ≡ false) × (is_either b 120 88 ≡ false)

hexadecimal-holds : (a x : ℕ) (f : List ℕ) → a ≡ 48 → is_either x 120 88 ≡ true → SomeIn HexDigit f → AreDigits (a ∷ x ∷ f)
hexadecimal-holds a x f e h some = inr (inr (x, f, ap (λ z. z ∷ x ∷ f) e, h, some))

octal-holds : (front rest t : List ℕ) → t ≡ front ++ rest → 0 < length front → AllIn OctalDigit front → slice_index t 0 ≡ 48 → AreDigits front
octal-holds [] rest t e l h z = absurd (omega arith)
octal-holds (d ∷ f) rest t e l h z = inr (inl (f, ap (λ x. x ∷ f) (sym (ap (λ s. slice_index s 0) e) ∙ z), h.1))

decimal-holds : (front rest t : List ℕ) → t ≡ front ++ rest → 0 < length front → AllIn Digit front → (slice_index t 0 ≡ 48 → ⊥) → AreDigits front
decimal-holds [] rest t e l h z = absurd (omega arith)
decimal-holds (d ∷ f) rest t e l h z = inl (h.0, (λ k. z (ap (λ s. slice_index s 0) e ∙ k)), h.1)

hexadecimal-front : (t : List ℕ) → begins_hexadecimal t ≡ true → Begins AreDigits (2 + run HexDigit (drop 2 t)) t
hexadecimal-front [] h = cc
hexadecimal-front (a ∷ []) h = absurd (grind (arith, nat_tests))
hexadecimal-front (a ∷ x ∷ t) h =
    let first = and-split (eqb a 48 && is_either x 120 88) (is_in HexDigit (slice_index t 0)) h in
    let second = and-split (eqb a 48) (is_either x 120 88) first.0 in
    let digits = (run-front HexDigit t).here in
    record {
      front = a ∷ x ∷ digits.front;
      rest = digits.rest;
      split = ap (λ s. a ∷ x ∷ s) digits.split;
      len = omega (arith, digits.len);
      holds = hexadecimal-holds a x digits.front (eqb-true a 48 second.0) second.1 (some-all HexDigit digits.front digits.holds (long t digits.front digits.rest digits.len first.1));
    }
  where
    long : (t front rest : List ℕ) → length front ≡ run HexDigit t → is_in HexDigit (slice_index t 0) ≡ true → 0 < length front
    long [] front rest l h = cc
    long (b ∷ t) front rest l h = omega (arith, run-in HexDigit b t h)

pub digits-front : (t : List ℕ) → 0 < digits_len t → Begins AreDigits (digits_len t) t
unfolding digits_len
digits-front t l =
    elim (either (begins_hexadecimal t)) [
      | inl h ↦ let f = hexadecimal-front t h in record { front = f.front; rest = f.rest; split = f.split; len = f.len ∙ sym (rw h refl); holds = f.holds }
      | inr n ↦ elim (either (eqb (slice_index t 0) 48)) [
        | inl z ↦
            let e : digits_len t ≡ run OctalDigit t = rw (n, z) refl in
            let f = (run-front OctalDigit t).here in
            record { front = f.front; rest = f.rest; split = f.split; len = f.len ∙ sym e; holds = octal-holds f.front f.rest t f.split (omega (arith, e, f.len)) f.holds (eqb-true _ 48 z) }
        | inr z ↦
            let e : digits_len t ≡ run Digit t = rw (n, z) refl in
            let f = (run-front Digit t).here in
            record { front = f.front; rest = f.rest; split = f.split; len = f.len ∙ sym e; holds = decimal-holds f.front f.rest t f.split (omega (arith, e, f.len)) f.holds (eqb-false _ 48 z) }
      ]
    ]

not_x-begins : (a b : ℕ) (t : List ℕ) → is_either b 120 88 ≡ false → begins_hexadecimal (a ∷ b ∷ t) ≡ false
not_x-begins a b t h = and-left _ _ (and-right (eqb a 48) (is_either b 120 88) h)

not_zero-begins : (a : ℕ) (t : List ℕ) → eqb a 48 ≡ false → begins_hexadecimal (a ∷ t) ≡ false
not_zero-begins a t h = and-left _ _ (and-left (eqb a 48) _ h)

stops-begins : (r : List ℕ) → StopsDigits r → begins_hexadecimal (48 ∷ r) ≡ false
stops-begins [] h = refl
stops-begins (b ∷ r) h = not_x-begins 48 b r h.1

abbrev Measured : List ℕ → List ℕ → Type 0
Measured s r = (length s ≤ digits_len (s ++ r)) × (StopsDigits r → digits_len (s ++ r) ≡ length s)

stops-octal : (r : List ℕ) → StopsDigits r → Ends OctalDigit r
stops-octal [] h = tt
stops-octal (b ∷ r) h = elim (either (is_in OctalDigit b)) [ inl o ↦ let e = octal-hexadecimal b o in cc | inr n ↦ n ]

stops-decimal : (r : List ℕ) → StopsDigits r → Ends Digit r
stops-decimal [] h = tt
stops-decimal (b ∷ r) h = elim (either (is_in Digit b)) [ inl o ↦ let e = digit-hexadecimal b o in cc | inr n ↦ n ]

stops-hexadecimal : (r : List ℕ) → StopsDigits r → Ends HexDigit r
stops-hexadecimal [] h = tt
stops-hexadecimal (b ∷ r) h = h.0

octal-len : (t : List ℕ) → begins_hexadecimal (48 ∷ t) ≡ false → digits_len (48 ∷ t) ≡ suc (run OctalDigit t)
unfolding digits_len
octal-len t h = rw h (run-in OctalDigit 48 t refl)

decimal-len : (d : ℕ) (t : List ℕ) → is_in Digit d ≡ true → (d ≢ 48) → digits_len (d ∷ t) ≡ suc (run Digit t)
unfolding digits_len
decimal-len d t h n =
    let z : eqb d 48 ≡ false = elim (either (eqb d 48)) [ inl e ↦ absurd (n (eqb-true d 48 e)) | inr e ↦ e ] in
    rw (not_zero-begins d t z, z) (run-in Digit d t h)

hexadecimal-len : (x h : ℕ) (t : List ℕ) → is_either x 120 88 ≡ true → is_in HexDigit h ≡ true → digits_len (48 ∷ x ∷ h ∷ t) ≡ 2 + suc (run HexDigit t)
unfolding digits_len
hexadecimal-len x h t e k = rw (e, k) (omega arith)

long : (r : List ℕ) → begins_hexadecimal (48 ∷ r) ≡ true → 1 ≤ digits_len (48 ∷ r)
unfolding digits_len
long r k = rw k (omega arith)

octal-measured : (ds r : List ℕ) → AllIn OctalDigit ds → Measured (48 ∷ ds) r
octal-measured (b ∷ ds) r h =
    let e = octal-len (b ∷ ds ++ r) (not_x-begins 48 b (ds ++ r) (octal-not_x b h.0)) in
    (omega (arith, e, run-reaches OctalDigit (b ∷ ds) r h), (λ s. e ∙ ap suc (run-stops OctalDigit (b ∷ ds) r h (stops-octal r s))))
octal-measured [] r h = (
  elim (either (begins_hexadecimal (48 ∷ r))) [ inl k ↦ long r k | inr k ↦ omega (arith, octal-len r k) ],
  λ s. octal-len r (stops-begins r s) ∙ ap suc (run-stops OctalDigit [] r tt (stops-octal r s)),
)

decimal-measured : (d : ℕ) (ds r : List ℕ) → IsDecimal (d ∷ ds) → Measured (d ∷ ds) r
decimal-measured d ds r h =
    let e = decimal-len d (ds ++ r) h.0 h.1 in
    (omega (arith, e, run-reaches Digit ds r h.2), (λ s. e ∙ ap suc (run-stops Digit ds r h.2 (stops-decimal r s))))

hexadecimal-measured : (x : ℕ) (ds r : List ℕ) → is_either x 120 88 ≡ true → SomeIn HexDigit ds → Measured (48 ∷ x ∷ ds) r
hexadecimal-measured x [] r h some = absurd some
hexadecimal-measured x (d ∷ ds) r h some =
    let e = hexadecimal-len x d (ds ++ r) h some.0 in
    (omega (arith, e, run-reaches HexDigit ds r some.1), (λ s. omega (arith, e, run-stops HexDigit ds r some.1 (stops-hexadecimal r s))))

digits-measured : (s r : List ℕ) → AreDigits s → Measured s r
digits-measured s r (inl h) = decimal s h
  where
    decimal : (s : List ℕ) → IsDecimal s → Measured s r
    decimal [] h = absurd h
    decimal (d ∷ ds) h = decimal-measured d ds r h
digits-measured s r (inr (inl h)) = subst (λ x. Measured x r) (sym h.1) (octal-measured h.0 r h.2)
digits-measured s r (inr (inr h)) = subst (λ x. Measured x r) (sym h.2) (hexadecimal-measured h.0 h.1 r h.3 h.4)

-- ---- constants

digits-long : (s : List ℕ) → AreDigits s → 0 < length s
digits-long [] (inl h) = absurd h
digits-long [] (inr (inl h)) = omega (arith, ap length h.1)
digits-long [] (inr (inr h)) = omega (arith, ap length h.2)
digits-long (d ∷ ds) h = omega arith

integer-len : (t : List ℕ) → 0 < digits_len t → integer_len t ≡ digits_len t + integer_suffix_len (drop (digits_len t) t)
unfolding integer_len
integer-len t l = rw (differs t l) refl
  where
    differs : (t : List ℕ) → 0 < digits_len t → eqb (digits_len t) 0 ≡ false
    differs t l = grind (arith, nat_tests)

integer-none : (t : List ℕ) → digits_len t ≡ 0 → integer_len t ≡ 0
unfolding integer_len
integer-none t e = rw e refl

pub integer-front : (t : List ℕ) → 0 < integer_len t → Begins IsInteger (integer_len t) t
integer-front t l =
    elim (either (eqb (digits_len t) 0)) [
      | inl z ↦ absurd (omega (arith, integer-none t (eqb-true _ 0 z)))
      | inr z ↦
          let some : 0 < digits_len t = omega (arith, eqb-false _ 0 z) in
          let d = digits-front t some in
          let s = suffix-front d.rest in
          let e = integer-len t some ∙ ap (λ r. digits_len t + integer_suffix_len r) (begins-drop d) in
          record {
            front = d.front ++ s.front;
            rest = s.rest;
            split = d.split ∙ ap (λ r. d.front ++ r) s.split ∙ sym (append_assoc d.front s.front s.rest);
            len = omega (arith, length-append d.front s.front, d.len, s.len, e);
            holds = record { digits = d.front; suffix = s.front; whole = refl; constant = d.holds; ending = s.holds };
          }
    ]

suffix-stops : (a : ℕ) (s r : List ℕ) → IsIntegerSuffix (a ∷ s) → StopsDigits (a ∷ s ++ r)
suffix-stops a [] r h = elim (or-split (is_u a) (is_l a) h) [ inl u ↦ (u-not_hexadecimal a u, u-not_x a u) | inr l ↦ (l-not_hexadecimal a l, l-not_x a l) ]
suffix-stops a (b ∷ []) r h =
    elim (or-split (is_u a && is_l b) (is_l a && is_u b) h) [
      | inl k ↦ let u = (and-split (is_u a) (is_l b) k).0 in (u-not_hexadecimal a u, u-not_x a u)
      | inr k ↦ let l = (and-split (is_l a) (is_u b) k).0 in (l-not_hexadecimal a l, l-not_x a l)
    ]
suffix-stops a (b ∷ c ∷ s) r h = absurd h

reaches : (digits suffix r : List ℕ) → AreDigits digits → IsIntegerSuffix suffix → length digits + length suffix ≤ integer_len (digits ++ (suffix ++ r))
reaches digits [] r h k =
    let m = digits-measured digits r h in
    let l = digits-long digits h in
    omega (arith, m.0, l, integer-len (digits ++ r) (omega arith))
reaches digits (a ∷ s) r h k =
    let m = (digits-measured digits (a ∷ s ++ r) h).1 (suffix-stops a s r k) in
    let l = digits-long digits h in
    let e = integer-len (digits ++ (a ∷ s ++ r)) (omega arith) in
    let d = ap integer_suffix_len (drop_at digits (a ∷ s ++ r) (digits_len (digits ++ (a ∷ s ++ r))) (sym m)) in
    omega (arith, m, e, d, suffix-reaches (a ∷ s) r k)

pub integer-reaches : (a r : List ℕ) → IsInteger a → length a ≤ integer_len (a ++ r)
integer-reaches a r h =
    let e : a ++ r ≡ h.digits ++ (h.suffix ++ r) = ap (λ x. x ++ r) h.whole ∙ append_assoc h.digits h.suffix r in
    omega (arith, ap length h.whole, length-append h.digits h.suffix, ap integer_len e, reaches h.digits h.suffix r h.constant h.ending)
