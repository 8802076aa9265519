-- `floating_len` is the length of the longest floating constant at the beginning.
use Rattle.std.proofs.Common.{◌≡◌, ◌≢◌, ℕ, suc, ◌+◌, ◌<◌, ◌≤◌, ◌⊎◌, inl, inr, Bool, true, false, ◌&&◌, ◌||◌, eqb, List, [], ◌∷◌, ◌++◌, length, drop, slice_index, refl, ap, arith, sym, ◌∙◌, subst, append_assoc, length-append}
use Rattle.std.proofs.lemmas.Bool.{eqb-true, eqb-false, eq-eqb}
use Rattle.std.proofs.lemmas.Bool.Decides.{nat_tests}
use Rattle.std.proofs.lemmas.List.{drop_at}
use Rattle.pw_token.proofs.Runs.{Begins, begins-drop, run-front, run-in, run-reaches, run-stops, Ends, either, all-some, some-all, some-long}
use Rattle.pw_token.proofs.ByteFacts.{and-split, and-left, and-right, or-split}
use Rattle.pw_token.specs.Bytes.{is_in, is_either, AllIn, SomeIn, is_u, is_l}
use Rattle.pw_token.specs.Scanning.{run, exponent_start, exponent_len, fraction_len, floating_suffix_len, scaled_len, floating_len}
use Rattle.pw_token.specs.Spelling.{IsFloating, IsFractional, IsExponent, IsOptionalSign, IsFloatingSuffix, IsScaled, IsInteger, IsDecimal, IsOctal, IsHexadecimal, IsIntegerSuffix}
use Rattle.pw_token.specs.declared.bytes.Class.TheVariants.{Digit, OctalDigit}

-- ---- suffixes

suffix-front : (t : List ℕ) → Begins IsFloatingSuffix (floating_suffix_len t) t
suffix-front [] = record { front = []; rest = []; split = refl; len = refl; holds = tt }
suffix-front (a ∷ t) =
    elim (either (is_either a 102 70 || is_l a)) [
      | inl h ↦ record { front = a ∷ []; rest = t; split = refl; len = rw h refl; holds = h }
      | inr n ↦ record { front = []; rest = a ∷ t; split = refl; len = rw n refl; holds = tt }
    ]

suffix-reaches : (s r : List ℕ) → IsFloatingSuffix s → length s ≤ floating_suffix_len (s ++ r)
suffix-reaches [] r h = omega arith
suffix-reaches (a ∷ []) r h = rw h (omega arith)
suffix-reaches (a ∷ b ∷ s) r h = absurd h

-- ---- exponents

exponent-some : (t : List ℕ) → is_either (slice_index t 0) 101 69 ≡ true → 0 < run Digit (drop (exponent_start t) t) → exponent_len t ≡ exponent_start t + run Digit (drop (exponent_start t) t)
unfolding exponent_len
exponent-some t h l =
    let z : eqb (run Digit (drop (exponent_start t) t)) 0 ≡ false = grind (arith, nat_tests) in
    rw (h, z) refl

exponent-not : (t : List ℕ) → is_either (slice_index t 0) 101 69 ≡ false → exponent_len t ≡ 0
unfolding exponent_len
exponent-not t h = rw h refl

exponent-empty : (t : List ℕ) → run Digit (drop (exponent_start t) t) ≡ 0 → exponent_len t ≡ 0
unfolding exponent_len
exponent-empty t e = elim (either (is_either (slice_index t 0) 101 69)) [ inl h ↦ rw (h, e) refl | inr n ↦ rw n refl ]

start-signed : (e b : ℕ) (t : List ℕ) → is_either b 43 45 ≡ true → exponent_start (e ∷ b ∷ t) ≡ 2
start-signed e b t h = rw h refl

start-plain : (e b : ℕ) (t : List ℕ) → is_either b 43 45 ≡ false → exponent_start (e ∷ b ∷ t) ≡ 1
start-plain e b t h = rw h refl

digits-holds : (t : List ℕ) → 0 < run Digit t → Begins (SomeIn Digit) (run Digit t) t
digits-holds t l =
    let f = (run-front Digit t).here in
    record { front = f.front; rest = f.rest; split = f.split; len = f.len; holds = some-all Digit f.front f.holds (omega (arith, f.len)) }

exponent-front : (t : List ℕ) → 0 < exponent_len t → Begins IsExponent (exponent_len t) t
exponent-front [] l = absurd (omega (arith, exponent-not [] refl))
exponent-front (e ∷ []) l = absurd (omega (arith, exponent-empty (e ∷ []) refl))
exponent-front (e ∷ b ∷ t) l =
    elim (either (is_either e 101 69)) [
      | inr n ↦ absurd (omega (arith, exponent-not (e ∷ b ∷ t) n))
      | inl h ↦ elim (either (is_either b 43 45)) [
        | inl s ↦
            let start = start-signed e b t s in
            let after : drop (exponent_start (e ∷ b ∷ t)) (e ∷ b ∷ t) ≡ t = ap (λ k. drop k (e ∷ b ∷ t)) start in
            let some : 0 < run Digit t = positive (e ∷ b ∷ t) t after l in
            let d = digits-holds t some in
            record {
              front = e ∷ b ∷ d.front;
              rest = d.rest;
              split = ap (λ x. e ∷ b ∷ x) d.split;
              len = omega (arith, d.len, exponent-some (e ∷ b ∷ t) h (rw after some), start, ap (run Digit) after);
              holds = (e, b ∷ [], d.front, refl, h, s, d.holds);
            }
        | inr n ↦
            let start = start-plain e b t n in
            let after : drop (exponent_start (e ∷ b ∷ t)) (e ∷ b ∷ t) ≡ b ∷ t = ap (λ k. drop k (e ∷ b ∷ t)) start in
            let some : 0 < run Digit (b ∷ t) = positive (e ∷ b ∷ t) (b ∷ t) after l in
            let d = digits-holds (b ∷ t) some in
            record {
              front = e ∷ d.front;
              rest = d.rest;
              split = ap (λ x. e ∷ x) d.split;
              len = omega (arith, d.len, exponent-some (e ∷ b ∷ t) h (rw after some), start, ap (run Digit) after);
              holds = (e, [], d.front, refl, h, tt, d.holds);
            }
      ]
    ]
  where
    positive : (t u : List ℕ) → drop (exponent_start t) t ≡ u → 0 < exponent_len t → 0 < run Digit u
    positive t u e l = elim (either (eqb (run Digit u) 0)) [
      | inl z ↦ absurd (omega (arith, exponent-empty t (ap (run Digit) e ∙ eqb-true _ 0 z)))
      | inr z ↦ omega (arith, eqb-false _ 0 z)
    ]

digit-no_sign : (b : ℕ) → is_in Digit b ≡ true → is_either b 43 45 ≡ false
digit-no_sign b h = grind (arith, nat_tests)

-- the exponent is reached, and met where no digit follows
abbrev ExponentMeasured : List ℕ → List ℕ → Type 0
ExponentMeasured s r = (length s ≤ exponent_len (s ++ r)) × (Ends Digit r → exponent_len (s ++ r) ≡ length s)

signed-measured : (e b d : ℕ) (ds r : List ℕ) → is_either e 101 69 ≡ true → is_either b 43 45 ≡ true → SomeIn Digit (d ∷ ds) → ExponentMeasured (e ∷ b ∷ d ∷ ds) r
signed-measured e b d ds r h s some =
    let t = e ∷ b ∷ d ∷ ds ++ r in
    let start = start-signed e b (d ∷ ds ++ r) s in
    let after : drop (exponent_start t) t ≡ d ∷ ds ++ r = ap (λ k. drop k t) start in
    let count = run-in Digit d (ds ++ r) some.0 in
    let l = exponent-some t h (rw after (omega (arith, count))) in
    let k = ap (run Digit) after in
    (omega (arith, l, start, k, count, run-reaches Digit ds r some.1), (λ n. omega (arith, l, start, k, count, run-stops Digit ds r some.1 n)))

plain-measured : (e d : ℕ) (ds r : List ℕ) → is_either e 101 69 ≡ true → SomeIn Digit (d ∷ ds) → ExponentMeasured (e ∷ d ∷ ds) r
plain-measured e d ds r h some =
    let t = e ∷ d ∷ ds ++ r in
    let start = start-plain e d (ds ++ r) (digit-no_sign d some.0) in
    let after : drop (exponent_start t) t ≡ d ∷ ds ++ r = ap (λ k. drop k t) start in
    let count = run-in Digit d (ds ++ r) some.0 in
    let l = exponent-some t h (rw after (omega (arith, count))) in
    let k = ap (run Digit) after in
    (omega (arith, l, start, k, count, run-reaches Digit ds r some.1), (λ n. omega (arith, l, start, k, count, run-stops Digit ds r some.1 n)))

parts-measured : (e : ℕ) (sign digits r : List ℕ) → is_either e 101 69 ≡ true → IsOptionalSign sign → SomeIn Digit digits → ExponentMeasured (e ∷ sign ++ digits) r
parts-measured e sign [] r h s some = absurd some
parts-measured e [] (d ∷ ds) r h s some = plain-measured e d ds r h some
parts-measured e (b ∷ []) (d ∷ ds) r h s some = signed-measured e b d ds r h s some
parts-measured e (b ∷ c ∷ sign) (d ∷ ds) r h s some = absurd s

exponent-measured : (s r : List ℕ) → IsExponent s → ExponentMeasured s r
exponent-measured s r h = subst (λ x. ExponentMeasured x r) (sym h.3) (parts-measured h.0 h.1 h.2 r h.4 h.5 h.6)

exponent-long : (s : List ℕ) → IsExponent s → 0 < length s
exponent-long s h = omega (arith, ap length h.3)

-- ---- fractions

pub at-front : (w r : List ℕ) → slice_index (w ++ r) (length w) ≡ slice_index r 0
at-front [] r = refl
at-front (b ∷ w) r = at-front w r

drop-past : (w : List ℕ) (p : ℕ) (r : List ℕ) → drop (suc (length w)) (w ++ p ∷ r) ≡ r
drop-past [] p r = refl
drop-past (b ∷ w) p r = drop-past w p r

-- what is behind the digits of t, and behind a point there
record Whole (t w r : List ℕ) : Type 0 where
  split : t ≡ w ++ r
  len : run Digit t ≡ length w

whole-at : (t w r : List ℕ) → Whole t w r → slice_index t (run Digit t) ≡ slice_index r 0
whole-at t w r h = ap (slice_index t) h.len ∙ ap (λ s. slice_index s (length w)) h.split ∙ at-front w r

whole-drop : (t w : List ℕ) (p : ℕ) (r : List ℕ) → Whole t w (p ∷ r) → drop (run Digit t + 1) t ≡ r
whole-drop t w p r h =
    let e : run Digit t + 1 ≡ suc (length w) = omega (arith, h.len) in
    ap (λ n. drop n t) e ∙ ap (drop (suc (length w))) h.split ∙ drop-past w p r

fraction-some : (t w r : List ℕ) → Whole t w (46 ∷ r) → 0 < length w + run Digit r → fraction_len t ≡ length w + 1 + run Digit r
unfolding fraction_len
fraction-some t w r h l =
    let p : eqb (slice_index t (run Digit t)) 46 ≡ true = eq-eqb _ 46 (whole-at t w (46 ∷ r) h) in
    let d = whole-drop t w 46 r h in
    let z : eqb (length w + run Digit r) 0 ≡ false = grind (arith, nat_tests) in
    rw (p, d, h.len, z) refl

fraction-empty : (t w r : List ℕ) → Whole t w (46 ∷ r) → length w + run Digit r ≡ 0 → fraction_len t ≡ 0
unfolding fraction_len
fraction-empty t w r h l =
    let p : eqb (slice_index t (run Digit t)) 46 ≡ true = eq-eqb _ 46 (whole-at t w (46 ∷ r) h) in
    let d = whole-drop t w 46 r h in
    rw (p, d, h.len, l) refl

fraction-not : (t w r : List ℕ) → Whole t w r → (slice_index r 0 ≡ 46 → ⊥) → fraction_len t ≡ 0
unfolding fraction_len
fraction-not t w r h n =
    let p : eqb (slice_index t (run Digit t)) 46 ≡ false =
    elim (either (eqb (slice_index t (run Digit t)) 46)) [ inl e ↦ absurd (n (sym (whole-at t w r h) ∙ eqb-true _ 46 e)) | inr e ↦ e ] in
    rw p refl

empty-long : (a b : List ℕ) → 0 < length a + length b → a ++ b ≢ []
empty-long a b l e = omega (arith, ap length e, length-append a b)

fraction-from : (t w r : List ℕ) → Whole t w r → AllIn Digit w → 0 < fraction_len t → Begins IsFractional (fraction_len t) t
fraction-from t w [] h all l = absurd (omega (arith, fraction-not t w [] h (λ e. absurd (omega arith))))
fraction-from t w (p ∷ r) h all l =
    elim (either (eqb p 46)) [
      | inr n ↦ absurd (omega (arith, fraction-not t w (p ∷ r) h (λ e. eqb-false p 46 n e)))
      | inl e ↦
          let h' : Whole t w (46 ∷ r) = subst (λ x. Whole t w (x ∷ r)) (eqb-true p 46 e) h in
          elim (either (eqb (length w + run Digit r) 0)) [
            | inl z ↦ absurd (omega (arith, fraction-empty t w r h' (eqb-true _ 0 z)))
            | inr z ↦
                let d = (run-front Digit r).here in
                let some : 0 < length w + run Digit r = omega (arith, eqb-false _ 0 z) in
                record {
                  front = w ++ 46 ∷ d.front;
                  rest = d.rest;
                  split = h'.split ∙ ap (λ x. w ++ 46 ∷ x) d.split ∙ sym (append_assoc w (46 ∷ d.front) d.rest);
                  len = omega (arith, fraction-some t w r h' some, length-append w (46 ∷ d.front), d.len);
                  holds = (w, d.front, refl, all, d.holds, empty-long w d.front (omega (arith, some, d.len)));
                }
          ]
    ]

fraction-front : (t : List ℕ) → 0 < fraction_len t → Begins IsFractional (fraction_len t) t
fraction-front t l =
    let w = (run-front Digit t).here in
    fraction-from t w.front w.rest (record { split = w.split; len = sym w.len }) w.holds l

abbrev FractionMeasured : List ℕ → List ℕ → Type 0
FractionMeasured s r = (length s ≤ fraction_len (s ++ r)) × (Ends Digit r → fraction_len (s ++ r) ≡ length s)

parts-fraction : (w b r : List ℕ) → AllIn Digit w → AllIn Digit b → w ++ b ≢ [] → FractionMeasured (w ++ 46 ∷ b) r
parts-fraction w b r hw hb some =
    let t = (w ++ 46 ∷ b) ++ r in
    let e : t ≡ w ++ 46 ∷ (b ++ r) = append_assoc w (46 ∷ b) r in
    let h : Whole t w (46 ∷ (b ++ r)) = record { split = e; len = ap (run Digit) e ∙ run-stops Digit w (46 ∷ (b ++ r)) hw refl } in
    let l = run-reaches Digit b r hb in
    let f = fraction-some t w (b ++ r) h (omega (arith, long w b some, l)) in
    (omega (arith, f, l, length-append w (46 ∷ b)), (λ n. omega (arith, f, run-stops Digit b r hb n, length-append w (46 ∷ b))))
  where
    long : (w b : List ℕ) → w ++ b ≢ [] → 0 < length w + length b
    long [] [] n = absurd (n refl)
    long [] (x ∷ b) n = omega arith
    long (x ∷ w) b n = omega arith

fraction-measured : (s r : List ℕ) → IsFractional s → FractionMeasured s r
fraction-measured s r h = subst (λ x. FractionMeasured x r) (sym h.2) (parts-fraction h.0 h.1 r h.3 h.4 h.5)

-- ---- constants

scaled-some : (n : ℕ) (wanted : Bool) (t u : List ℕ) → drop n t ≡ u → (wanted && eqb (exponent_len u) 0) ≡ false
    → scaled_len n wanted t ≡ n + exponent_len u + floating_suffix_len (drop (n + exponent_len u) t)
unfolding scaled_len
scaled-some n wanted t u e h = rw (e, h) refl

scaled-none : (n : ℕ) (t u : List ℕ) → drop n t ≡ u → exponent_len u ≡ 0 → scaled_len n true t ≡ 0
unfolding scaled_len
scaled-none n t u e h = rw (e, h) refl

-- the rest of a floating constant behind its mantissa
record Ending (wanted : Bool) (m s : List ℕ) : Type 0 where
  exponent : List ℕ
  suffix : List ℕ
  whole : s ≡ m ++ (exponent ++ suffix)
  scale : ((exponent ≡ []) × (wanted ≡ false)) ⊎ IsExponent exponent
  ending : IsFloatingSuffix suffix

scaled-plain : (n : ℕ) (m u t : List ℕ) → t ≡ m ++ u → length m ≡ n → exponent_len u ≡ 0 → Begins (Ending false m) (scaled_len n false t) t
scaled-plain n m u t e l z =
    let d : drop n t ≡ u = ap (drop n) e ∙ drop_at m u n l in
    let s = suffix-front u in
    let some = scaled-some n false t u d refl in
    let k : n + exponent_len u ≡ n = omega (arith, z) in
    record {
      front = m ++ s.front;
      rest = s.rest;
      split = e ∙ ap (λ x. m ++ x) s.split ∙ sym (append_assoc m s.front s.rest);
      len = omega (arith, length-append m s.front, s.len, some, ap (λ i. floating_suffix_len (drop i t)) k, ap floating_suffix_len d);
      holds = record { exponent = []; suffix = s.front; whole = refl; scale = inl (refl, refl); ending = s.holds };
    }

not-zero : (w : Bool) (n : ℕ) → 0 < n → (w && eqb n 0) ≡ false
not-zero w n l = and-right w (eqb n 0) (no n l)
  where
    no : (n : ℕ) → 0 < n → eqb n 0 ≡ false
    no n l = grind (arith, nat_tests)

scaled-exponent : (n : ℕ) (wanted : Bool) (m u t : List ℕ) → t ≡ m ++ u → length m ≡ n → 0 < exponent_len u → Begins (Ending wanted m) (scaled_len n wanted t) t
scaled-exponent n wanted m u t e l z =
    let d : drop n t ≡ u = ap (drop n) e ∙ drop_at m u n l in
    let x = exponent-front u z in
    let s = suffix-front x.rest in
    let some = scaled-some n wanted t u d (not-zero wanted (exponent_len u) z) in
    let joined : t ≡ (m ++ x.front) ++ x.rest = e ∙ ap (λ r. m ++ r) x.split ∙ sym (append_assoc m x.front x.rest) in
    let after : drop (n + exponent_len u) t ≡ x.rest = ap (drop (n + exponent_len u)) joined ∙ drop_at (m ++ x.front) x.rest (n + exponent_len u) (omega (arith, length-append m x.front, x.len, l)) in
    record {
      front = m ++ (x.front ++ s.front);
      rest = s.rest;
      split = e ∙ ap (λ r. m ++ r) (x.split ∙ ap (λ r. x.front ++ r) s.split ∙ sym (append_assoc x.front s.front s.rest)) ∙ sym (append_assoc m (x.front ++ s.front) s.rest);
      len = omega (arith, length-append m (x.front ++ s.front), length-append x.front s.front, x.len, s.len, some, ap floating_suffix_len after);
      holds = record { exponent = x.front; suffix = s.front; whole = refl; scale = inr x.holds; ending = s.holds };
    }

floating-fraction : (t : List ℕ) → 0 < fraction_len t → floating_len t ≡ scaled_len (fraction_len t) false t
unfolding floating_len
floating-fraction t l = let z : eqb (fraction_len t) 0 ≡ false = grind (arith, nat_tests) in rw z refl

floating-digits : (t : List ℕ) → fraction_len t ≡ 0 → 0 < run Digit t → floating_len t ≡ scaled_len (run Digit t) true t
unfolding floating_len
floating-digits t e l = let z : eqb (run Digit t) 0 ≡ false = grind (arith, nat_tests) in rw (e, z) refl

floating-none : (t : List ℕ) → fraction_len t ≡ 0 → run Digit t ≡ 0 → floating_len t ≡ 0
unfolding floating_len
floating-none t e l = rw (e, l) refl

from-fraction : (t : List ℕ) → 0 < fraction_len t → Begins IsFloating (floating_len t) t
from-fraction t l =
    let f = fraction-front t l in
    let e = floating-fraction t l in
    let b : Begins (Ending false f.front) (scaled_len (fraction_len t) false t) t = elim (either (eqb (exponent_len f.rest) 0)) [
      | inl z ↦ scaled-plain (fraction_len t) f.front f.rest t f.split f.len (eqb-true _ 0 z)
      | inr z ↦ scaled-exponent (fraction_len t) false f.front f.rest t f.split f.len (omega (arith, eqb-false _ 0 z))
    ] in
    record { front = b.front; rest = b.rest; split = b.split; len = b.len ∙ sym e; holds = is_floating f.front b.front f.holds b.holds }
  where
    is_floating : (m s : List ℕ) → IsFractional m → Ending false m s → IsFloating s
    is_floating m s h k = record {
      mantissa = m;
      exponent = k.exponent;
      suffix = k.suffix;
      whole = k.whole;
      ending = k.ending;
      constant = inl (h, elim k.scale [ inl e ↦ inl e.0 | inr x ↦ inr x ]);
    }

from-digits : (t : List ℕ) → fraction_len t ≡ 0 → 0 < run Digit t → 0 < floating_len t → Begins IsFloating (floating_len t) t
from-digits t none l some =
    let f = digits-holds t l in
    let e = floating-digits t none l in
    elim (either (eqb (exponent_len f.rest) 0)) [
      | inl z ↦ absurd (omega (arith, e, scaled-none (run Digit t) t f.rest (begins-drop f) (eqb-true _ 0 z)))
      | inr z ↦
          let b = scaled-exponent (run Digit t) true f.front f.rest t f.split f.len (omega (arith, eqb-false _ 0 z)) in
          record { front = b.front; rest = b.rest; split = b.split; len = b.len ∙ sym e; holds = is_floating f.front b.front f.holds b.holds }
    ]
  where
    is_floating : (m s : List ℕ) → SomeIn Digit m → Ending true m s → IsFloating s
    is_floating m s h k = record {
      mantissa = m;
      exponent = k.exponent;
      suffix = k.suffix;
      whole = k.whole;
      ending = k.ending;
      constant = inr (h, elim k.scale [ inl e ↦ cc | inr x ↦ x ]);
    }

pub floating-front : (t : List ℕ) → 0 < floating_len t → Begins IsFloating (floating_len t) t
floating-front t l =
    elim (either (eqb (fraction_len t) 0)) [
      | inr z ↦ from-fraction t (omega (arith, eqb-false _ 0 z))
      | inl z ↦ elim (either (eqb (run Digit t) 0)) [
        | inl n ↦ absurd (omega (arith, floating-none t (eqb-true _ 0 z) (eqb-true _ 0 n)))
        | inr n ↦ from-digits t (eqb-true _ 0 z) (omega (arith, eqb-false _ 0 n)) l
      ]
    ]

suffix-letter : (a : ℕ) → (is_either a 102 70 || is_l a) ≡ true → (is_in Digit a ≡ false) × (is_either a 101 69 ≡ false)
suffix-letter a h = (grind (arith, nat_tests), grind (arith, nat_tests))

-- behind the mantissa m of n bytes
scaled-reaches : (n : ℕ) (wanted : Bool) (m e x r : List ℕ) → length m ≡ n → ((e ≡ []) × (wanted ≡ false)) ⊎ IsExponent e → IsFloatingSuffix x
    → length m + length e + length x ≤ scaled_len n wanted (m ++ (e ++ (x ++ r)))
scaled-reaches n wanted m e [] r l (inr k) h =
    let u = e ++ r in
    let z = (exponent-measured e r k).0 in
    let some = scaled-some n wanted (m ++ u) u (drop_at m u n l) (not-zero wanted (exponent_len u) (omega (arith, z, exponent-long e k))) in
    omega (arith, some, z, l)
scaled-reaches n wanted m e (a ∷ []) r l (inr k) h =
    let u = e ++ (a ∷ r) in
    let z = (exponent-measured e (a ∷ r) k).1 (suffix-letter a h).0 in
    let some = scaled-some n wanted (m ++ u) u (drop_at m u n l) (not-zero wanted (exponent_len u) (omega (arith, z, exponent-long e k))) in
    let joined : m ++ u ≡ (m ++ e) ++ (a ∷ r) = sym (append_assoc m e (a ∷ r)) in
    let after : drop (n + exponent_len u) (m ++ u) ≡ a ∷ r = ap (drop (n + exponent_len u)) joined ∙ drop_at (m ++ e) (a ∷ r) (n + exponent_len u) (omega (arith, length-append m e, z, l)) in
    omega (arith, some, z, l, ap floating_suffix_len after, suffix-reaches (a ∷ []) r h)
scaled-reaches n wanted m e [] r l (inl k) h =
    let u = e ++ r in
    let some = scaled-some n wanted (m ++ u) u (drop_at m u n l) (and-left wanted _ k.1) in
    omega (arith, some, l, ap length k.0)
scaled-reaches n wanted m e (a ∷ []) r l (inl k) h =
    let u = e ++ (a ∷ r) in
    let same : u ≡ a ∷ r = ap (λ s. s ++ (a ∷ r)) k.0 in
    let z : exponent_len u ≡ 0 = ap exponent_len same ∙ exponent-not (a ∷ r) (suffix-letter a h).1 in
    let some = scaled-some n wanted (m ++ u) u (drop_at m u n l) (and-left wanted _ k.1) in
    let k' : n + exponent_len u ≡ n = omega (arith, z) in
    let after : drop (n + exponent_len u) (m ++ u) ≡ a ∷ r = ap (λ i. drop i (m ++ u)) k' ∙ drop_at m u n l ∙ same in
    omega (arith, some, z, l, ap floating_suffix_len after, suffix-reaches (a ∷ []) r h, ap length k.0)
scaled-reaches n wanted m e (a ∷ b ∷ x) r l k h = absurd h

scaled-least : (n : ℕ) (t : List ℕ) → n ≤ scaled_len n false t
unfolding scaled_len
scaled-least n t = omega arith

exponent-ends : (s r : List ℕ) → IsExponent s → Ends Digit (s ++ r)
exponent-ends [] r h = absurd (omega (arith, ap length h.3))
exponent-ends (b ∷ s) r h =
    let e : b ≡ h.0 = ap (λ s. slice_index s 0) h.3 in
    letter b (subst (λ x. is_either x 101 69 ≡ true) (sym e) h.4)
  where
    letter : (b : ℕ) → is_either b 101 69 ≡ true → is_in Digit b ≡ false
    letter b h = grind (arith, nat_tests)

exponent-no_point : (s r : List ℕ) → IsExponent s → slice_index (s ++ r) 0 ≡ 46 → ⊥
exponent-no_point [] r h e = omega (arith, ap length h.3)
exponent-no_point (b ∷ s) r h e =
    let k : b ≡ h.0 = ap (λ s. slice_index s 0) h.3 in
    letter b (subst (λ x. is_either x 101 69 ≡ true) (sym k) h.4) e
  where
    letter : (b : ℕ) → is_either b 101 69 ≡ true → b ≡ 46 → ⊥
    letter b h e = grind (arith, nat_tests)

fractional-long : (s : List ℕ) → IsFractional s → 0 < length s
fractional-long s h = omega (arith, ap length h.2, length-append h.0 (46 ∷ h.1))

-- what follows a fraction that is followed by an exponent or a suffix
fraction-then : (m e x r : List ℕ) → IsFractional m → ((e ≡ []) × (false ≡ false)) ⊎ IsExponent e → IsFloatingSuffix x → Ends Digit (e ++ (x ++ r))
    → length m + length e + length x ≤ floating_len (m ++ (e ++ (x ++ r)))
fraction-then m e x r h k s n =
    let f = (fraction-measured m (e ++ (x ++ r)) h).1 n in
    let l = fractional-long m h in
    omega (arith, f, floating-fraction (m ++ (e ++ (x ++ r))) (omega arith), scaled-reaches (fraction_len (m ++ (e ++ (x ++ r)))) false m e x r (sym f) k s)

fraction-alone : (m r : List ℕ) → IsFractional m → length m ≤ floating_len (m ++ r)
fraction-alone m r h =
    let f = (fraction-measured m r h).0 in
    let l = fractional-long m h in
    omega (arith, f, floating-fraction (m ++ r) (omega arith), scaled-least (fraction_len (m ++ r)) (m ++ r))

digits-then : (m e x r : List ℕ) → SomeIn Digit m → IsExponent e → IsFloatingSuffix x → length m + length e + length x ≤ floating_len (m ++ (e ++ (x ++ r)))
digits-then m e x r h k s =
    let t = m ++ (e ++ (x ++ r)) in
    let l = run-stops Digit m (e ++ (x ++ r)) (all-some Digit m h) (exponent-ends e (x ++ r) k) in
    let none = fraction-not t m (e ++ (x ++ r)) (record { split = refl; len = l }) (exponent-no_point e (x ++ r) k) in
    omega (arith, some-long Digit m h, floating-digits t none (omega (arith, l, some-long Digit m h)), scaled-reaches (run Digit t) true m e x r (sym l) (inr k) s)

parts-reach : (m e x r : List ℕ) → IsScaled m e → IsFloatingSuffix x → length m + length e + length x ≤ floating_len (m ++ (e ++ (x ++ r)))
parts-reach m e x r (inr h) s = digits-then m e x r h.0 h.1 s
parts-reach m e x r (inl (h, inr k)) s = fraction-then m e x r h (inr k) s (exponent-ends e (x ++ r) k)
parts-reach m e [] r (inl (h, inl k)) s = omega (arith, ap length k, fraction-alone m (e ++ r) h)
parts-reach m e (a ∷ []) r (inl (h, inl k)) s =
    fraction-then m e (a ∷ []) r h (inl (k, refl)) s (subst (λ z. Ends Digit (z ++ (a ∷ r))) (sym k) (suffix-letter a s).0)
parts-reach m e (a ∷ b ∷ x) r (inl (h, inl k)) s = absurd s

pub floating-reaches : (a r : List ℕ) → IsFloating a → length a ≤ floating_len (a ++ r)
floating-reaches a r h =
    let e : a ++ r ≡ h.mantissa ++ (h.exponent ++ (h.suffix ++ r)) =
    ap (λ x. x ++ r) h.whole ∙ append_assoc h.mantissa (h.exponent ++ h.suffix) r ∙ ap (λ x. h.mantissa ++ x) (append_assoc h.exponent h.suffix r) in
    omega (
      arith,
      ap length h.whole,
      length-append h.mantissa (h.exponent ++ h.suffix),
      length-append h.exponent h.suffix,
      ap floating_len e,
      parts-reach h.mantissa h.exponent h.suffix r h.constant h.ending,
    )

-- ---- integer constants are none

no-floating : (t w r : List ℕ) → Whole t w r → (slice_index r 0 ≡ 46 → ⊥) → is_either (slice_index r 0) 101 69 ≡ false → floating_len t ≡ 0
no-floating t w r h point letter =
    let none = fraction-not t w r h point in
    let after : drop (run Digit t) t ≡ r = ap (λ n. drop n t) h.len ∙ ap (drop (length w)) h.split ∙ drop_at w r (length w) refl in
    elim (either (eqb (run Digit t) 0)) [
      | inl z ↦ floating-none t none (eqb-true _ 0 z)
      | inr z ↦ floating-digits t none (omega (arith, eqb-false _ 0 z)) ∙ scaled-none (run Digit t) t r after (exponent-not r letter)
    ]

abbrev IsSuffixLetter : ℕ → Type 0
IsSuffixLetter a = (is_u a || is_l a) ≡ true

suffix-starts : (a : ℕ) (s : List ℕ) → IsIntegerSuffix (a ∷ s) → IsSuffixLetter a
suffix-starts a [] h = h
suffix-starts a (b ∷ []) h =
    elim (or-split (is_u a && is_l b) (is_l a && is_u b) h) [
      | inl k ↦ rw ((and-split (is_u a) (is_l b) k).0) refl
      | inr k ↦ elim (either (is_u a)) [ inl e ↦ rw e refl | inr n ↦ rw (n, (and-split (is_l a) (is_u b) k).0) refl ]
    ]
suffix-starts a (b ∷ c ∷ s) h = absurd h

letter-facts : (a : ℕ) → IsSuffixLetter a → (is_in Digit a ≡ false) × (is_either a 101 69 ≡ false) × (a ≡ 46 → ⊥)
letter-facts a h = (grind (arith, nat_tests), grind (arith, nat_tests), λ e. grind (arith, nat_tests))

-- the digits w before a suffix
before-suffix : (w suffix : List ℕ) → AllIn Digit w → IsIntegerSuffix suffix → floating_len (w ++ suffix) ≡ 0
before-suffix w [] h k = no-floating (w ++ []) w [] (record { split = refl; len = run-stops Digit w [] h tt }) (λ e. absurd (omega arith)) refl
before-suffix w (a ∷ s) h k =
    let f = letter-facts a (suffix-starts a s k) in
    no-floating (w ++ a ∷ s) w (a ∷ s) (record { split = refl; len = run-stops Digit w (a ∷ s) h f.0 }) f.2 f.1

x-facts : (x : ℕ) → is_either x 120 88 ≡ true → (is_in Digit x ≡ false) × (is_either x 101 69 ≡ false) × (x ≡ 46 → ⊥)
x-facts x h = (grind (arith, nat_tests), grind (arith, nat_tests), λ e. grind (arith, nat_tests))

octal-digits : (ds : List ℕ) → AllIn OctalDigit ds → AllIn Digit ds
octal-digits [] h = tt
octal-digits (d ∷ ds) h = (digit d h.0, octal-digits ds h.1)
  where
    digit : (d : ℕ) → is_in OctalDigit d ≡ true → is_in Digit d ≡ true
    digit d h = grind (arith, nat_tests)

pub integer-no_floating : (s : List ℕ) → IsInteger s → floating_len s ≡ 0
integer-no_floating s h = ap floating_len h.whole ∙ kinds h.digits h.suffix h.constant h.ending
  where
    decimal : (digits suffix : List ℕ) → IsDecimal digits → IsIntegerSuffix suffix → floating_len (digits ++ suffix) ≡ 0
    decimal [] suffix k e = absurd k
    decimal (d ∷ ds) suffix k e = before-suffix (d ∷ ds) suffix (k.0, k.2) e

    kinds : (digits suffix : List ℕ) → IsDecimal digits ⊎ (IsOctal digits ⊎ IsHexadecimal digits) → IsIntegerSuffix suffix → floating_len (digits ++ suffix) ≡ 0
    kinds digits suffix (inl k) e = decimal digits suffix k e
    kinds digits suffix (inr (inl k)) e = ap (λ x. floating_len (x ++ suffix)) k.1 ∙ before-suffix (48 ∷ k.0) suffix (refl, octal-digits k.0 k.2) e
    kinds digits suffix (inr (inr k)) e =
        let f = x-facts k.0 k.3 in
        let r = k.0 ∷ k.1 ++ suffix in
        ap (λ x. floating_len (x ++ suffix)) k.2 ∙ no-floating (48 ∷ r) (48 ∷ []) r (record { split = refl; len = run-stops Digit (48 ∷ []) r (refl, tt) f.0 }) f.2 f.1
