-- The unsigned division. The divisor d is shifted up by four bits at a time to D, as long as it is not above
-- the dividend n; then each digit of the quotient, of four bits, is found by comparing with 8 D, 4 D, 2 D and
-- D, and D goes down by four bits, until it is d again. What stays: the quotient so far, times D, and the
-- remainder so far make up n.
use Rattle.std.proofs.Common.{ℕ, zero, suc, ◌+◌, ◌-◌, ◌*◌, ◌/◌, ◌%◌, ◌^◌, ◌<◌, ◌≤◌, ◌≡◌, ◌≢◌, Bool, true, false, refl, sym, ap, subst, ◌∙◌, arith}
use Rattle.std.specs.Prelude.{◌==◌, nat_lt, nat_le}
use Rattle.std.specs.Int.Bits.{or_zero_r}
use Rattle.std.proofs.lemmas.Bool.{ltb-true, ltb-false, leb-true, leb-false, eqb-true, eqb-false, eq-eqb, ne_eqb}
use Rattle.std.proofs.Math.Nat.{add-mul, mul_assoc, zero-mul, le-mul_of_pos_right}
use Rattle.pw_value.specs.Words.{unsigned_difference}
use Rattle.pw_inst.specs.Computing.{extracted, deposited}
use Rattle.pw_milli.proofs.Small.{at, Arrives, after, there, and_on, weaker, scaled}
use Rattle.pw_milli.proofs.Codes.{dividing}
use Rattle.pw_milli.proofs.Stretches.{zero_divisor, some_divisor, sixteenth, short_quotient, long_quotient, lesser_part, shift_on, shift_last, halved, first_bit, second_on, second_bit, third_on, third_bit, fourth_on, eights_clear, eights_set, fours_clear, fours_set, twos_clear, twos_set, ones_clear, ones_set, digit_last, digit_on}

-- ---- the bits of a digit

-- before the bit of weight j: register t has j D, and the remainder is below twice that
pub record Before (n d s D j t : ℕ) (f : ℕ → ℕ) : Type 0 where
  pub whole : f 29 * D + f 26 ≡ n
  pub below : f 26 < 2 * (j * D)
  pub trial : f t ≡ j * D
  pub fits : j * D < 2 ^ 32
  pub divisor : f 25 ≡ d
  pub kept : f 28 ≡ s

-- before the first bit of a digit, where the quotient is still to be shifted
pub record Digit (n d s D : ℕ) (f : ℕ → ℕ) : Type 0 where
  pub whole : f 29 * (16 * D) + f 26 ≡ n
  pub below : f 26 < 16 * D
  pub trial : f 21 ≡ 8 * D
  pub half : f 22 ≡ 4 * D
  pub fits : 8 * D < 2 ^ 32
  pub divisor : f 25 ≡ d
  pub kept : f 28 ≡ s

-- after the last bit
pub record After (n d s D : ℕ) (f : ℕ → ℕ) : Type 0 where
  pub whole : f 29 * D + f 26 ≡ n
  pub below : f 26 < D
  pub trial : f 22 ≡ D
  pub half : f 21 ≡ D / 2
  pub fits : D < 2 ^ 32
  pub divisor : f 25 ≡ d
  pub kept : f 28 ≡ s

-- a bit of the quotient takes its part of the remainder
takes : (q D r n j : ℕ) → q * D + r ≡ n → j * D ≤ r → 0 < D → n < 2 ^ 32 → ((q + j) % 2 ^ 32) * D + (r - j * D) ≡ n
takes q D r n j e le pos lt =
    let sum : (q + j) * D ≡ q * D + j * D = add-mul q j D in
    let small : q + j ≤ (q + j) * D = le-mul_of_pos_right (q + j) pos in
    let same : (q + j) % 2 ^ 32 ≡ q + j = omega (arith, sum, small) in
    rw same (omega (arith, sum))

one_of : (D : ℕ) → 1 * D ≡ D
one_of D = omega arith

fours_when : (n d s D : ℕ) (f : ℕ → ℕ) (b : Bool) → nat_lt (f 26) (f 22) ≡ b → n < 2 ^ 32 → 0 < D → Before n d s D 4 22 f → Arrives dividing 4 (at 19 f) 23 (Before n d s D 2 21)
fours_when n d s D f true e small pos h =
    let go = fours_clear f e in
    let lt : f 26 < f 22 = ltb-true (f 26) (f 22) e in
    let half : go.0 21 ≡ extracted (f 22) 30 31 = go.2 in
    let rest : go.0 26 ≡ f 26 = go.5 in
    weaker dividing (2 + 0) 4 (at 19 f) 23 (Before n d s D 2 21) (Before n d s D 2 21) (omega arith) (λ g x. x)
    (after dividing 2 0 (at 19 f) (at 23 go.0) 23 (Before n d s D 2 21) go.1
    (there dividing 0 go.0 23 (Before n d s D 2 21) (record {
      whole = rw go.7 (rw go.5 h.whole);
      below = omega (arith, h.trial, rest, lt);
      trial = omega (arith, h.trial, h.fits, half);
      fits = omega (arith, h.fits);
      divisor = go.4 ∙ h.divisor;
      kept = go.6 ∙ h.kept;
    })))
fours_when n d s D f false e small pos h =
    let go = fours_set f e in
    let le : f 22 ≤ f 26 = ltb-false (f 26) (f 22) e in
    let half : go.0 21 ≡ extracted (f 22) 30 31 = go.2 in
    let rest : go.0 26 ≡ unsigned_difference (f 26) (f 22) = go.5 in
    let less : f 26 < 2 ^ 32 = omega (arith, h.whole) in
    let left : go.0 26 ≡ f 26 - 4 * D = omega (arith, h.trial, h.fits, rest, le) in
    let taken : ((f 29 + 4) % 2 ^ 32) * D + (f 26 - 4 * D) ≡ n = takes (f 29) D (f 26) n 4 h.whole (omega (arith, h.trial, le)) pos small in
    after dividing 4 0 (at 19 f) (at 23 go.0) 23 (Before n d s D 2 21) go.1
    (there dividing 0 go.0 23 (Before n d s D 2 21) (record {
      whole = rw go.7 (rw left taken);
      below = omega (arith, h.below, left);
      trial = omega (arith, h.trial, h.fits, half);
      fits = omega (arith, h.fits);
      divisor = go.4 ∙ h.divisor;
      kept = go.6 ∙ h.kept;
    }))

pub fours_bit : (n d s D : ℕ) (f : ℕ → ℕ) → n < 2 ^ 32 → 0 < D → Before n d s D 4 22 f → Arrives dividing 4 (at 19 f) 23 (Before n d s D 2 21)
fours_bit n d s D f small pos h = fours_when n d s D f (nat_lt (f 26) (f 22)) refl small pos h

twos_when : (n d s D : ℕ) (f : ℕ → ℕ) (b : Bool) → nat_lt (f 26) (f 21) ≡ b → n < 2 ^ 32 → 0 < D → Before n d s D 2 21 f → Arrives dividing 4 (at 23 f) 27 (Before n d s D 1 22)
twos_when n d s D f true e small pos h =
    let go = twos_clear f e in
    let lt : f 26 < f 21 = ltb-true (f 26) (f 21) e in
    let half : go.0 22 ≡ extracted (f 21) 30 31 = go.3 in
    let rest : go.0 26 ≡ f 26 = go.5 in
    weaker dividing (2 + 0) 4 (at 23 f) 27 (Before n d s D 1 22) (Before n d s D 1 22) (omega arith) (λ g x. x)
    (after dividing 2 0 (at 23 f) (at 27 go.0) 27 (Before n d s D 1 22) go.1
    (there dividing 0 go.0 27 (Before n d s D 1 22) (record {
      whole = rw go.7 (rw go.5 h.whole);
      below = omega (arith, h.trial, rest, lt);
      trial = omega (arith, h.trial, h.fits, half);
      fits = omega (arith, h.fits);
      divisor = go.4 ∙ h.divisor;
      kept = go.6 ∙ h.kept;
    })))
twos_when n d s D f false e small pos h =
    let go = twos_set f e in
    let le : f 21 ≤ f 26 = ltb-false (f 26) (f 21) e in
    let half : go.0 22 ≡ extracted (f 21) 30 31 = go.3 in
    let rest : go.0 26 ≡ unsigned_difference (f 26) (f 21) = go.5 in
    let less : f 26 < 2 ^ 32 = omega (arith, h.whole) in
    let left : go.0 26 ≡ f 26 - 2 * D = omega (arith, h.trial, h.fits, rest, le) in
    let taken : ((f 29 + 2) % 2 ^ 32) * D + (f 26 - 2 * D) ≡ n = takes (f 29) D (f 26) n 2 h.whole (omega (arith, h.trial, le)) pos small in
    after dividing 4 0 (at 23 f) (at 27 go.0) 27 (Before n d s D 1 22) go.1
    (there dividing 0 go.0 27 (Before n d s D 1 22) (record {
      whole = rw go.7 (rw left taken);
      below = omega (arith, h.below, left);
      trial = omega (arith, h.trial, h.fits, half);
      fits = omega (arith, h.fits);
      divisor = go.4 ∙ h.divisor;
      kept = go.6 ∙ h.kept;
    }))

pub twos_bit : (n d s D : ℕ) (f : ℕ → ℕ) → n < 2 ^ 32 → 0 < D → Before n d s D 2 21 f → Arrives dividing 4 (at 23 f) 27 (Before n d s D 1 22)
twos_bit n d s D f small pos h = twos_when n d s D f (nat_lt (f 26) (f 21)) refl small pos h

ones_when : (n d s D : ℕ) (f : ℕ → ℕ) (b : Bool) → nat_lt (f 26) (f 22) ≡ b → n < 2 ^ 32 → 0 < D → Before n d s D 1 22 f → Arrives dividing 4 (at 27 f) 31 (After n d s D)
ones_when n d s D f true e small pos h =
    let go = ones_clear f e in
    let lt : f 26 < f 22 = ltb-true (f 26) (f 22) e in
    let half : go.0 21 ≡ extracted (f 22) 30 31 = go.2 in
    let rest : go.0 26 ≡ f 26 = go.5 in
    weaker dividing (2 + 0) 4 (at 27 f) 31 (After n d s D) (After n d s D) (omega arith) (λ g x. x)
    (after dividing 2 0 (at 27 f) (at 31 go.0) 31 (After n d s D) go.1
    (there dividing 0 go.0 31 (After n d s D) (record {
      whole = rw go.7 (rw go.5 h.whole);
      below = omega (arith, h.trial, rest, lt);
      trial = go.3 ∙ h.trial ∙ one_of D;
      half = omega (arith, h.trial, h.fits, half);
      fits = omega (arith, h.fits);
      divisor = go.4 ∙ h.divisor;
      kept = go.6 ∙ h.kept;
    })))
ones_when n d s D f false e small pos h =
    let go = ones_set f e in
    let le : f 22 ≤ f 26 = ltb-false (f 26) (f 22) e in
    let half : go.0 21 ≡ extracted (f 22) 30 31 = go.2 in
    let rest : go.0 26 ≡ unsigned_difference (f 26) (f 22) = go.5 in
    let less : f 26 < 2 ^ 32 = omega (arith, h.whole) in
    let left : go.0 26 ≡ f 26 - 1 * D = omega (arith, h.trial, h.fits, rest, le) in
    let taken : ((f 29 + 1) % 2 ^ 32) * D + (f 26 - 1 * D) ≡ n = takes (f 29) D (f 26) n 1 h.whole (omega (arith, h.trial, le)) pos small in
    after dividing 4 0 (at 27 f) (at 31 go.0) 31 (After n d s D) go.1
    (there dividing 0 go.0 31 (After n d s D) (record {
      whole = rw go.7 (rw left taken);
      below = omega (arith, h.below, left);
      trial = go.3 ∙ h.trial ∙ one_of D;
      half = omega (arith, h.trial, h.fits, half);
      fits = omega (arith, h.fits);
      divisor = go.4 ∙ h.divisor;
      kept = go.6 ∙ h.kept;
    }))

pub ones_bit : (n d s D : ℕ) (f : ℕ → ℕ) → n < 2 ^ 32 → 0 < D → Before n d s D 1 22 f → Arrives dividing 4 (at 27 f) 31 (After n d s D)
ones_bit n d s D f small pos h = ones_when n d s D f (nat_lt (f 26) (f 22)) refl small pos h

-- the first bit of a digit, before which the quotient is shifted
shifted : (q D r n : ℕ) → q * (16 * D) + r ≡ n → n < 2 ^ 32 → 0 < D → deposited q 27 28 * D + r ≡ n
shifted q D r n e lt pos =
    let turned : q * (16 * D) ≡ q * 16 * D = sym (mul_assoc q 16 D) in
    let small : q * 16 ≤ q * 16 * D = le-mul_of_pos_right (q * 16) pos in
    let same : deposited q 27 28 ≡ q * 16 = omega (arith, turned, small, e) in
    rw same (omega (arith, turned, e))

eights_when : (n d s D : ℕ) (f : ℕ → ℕ) (b : Bool) → nat_lt (f 26) (f 21) ≡ b → n < 2 ^ 32 → 0 < D → Digit n d s D f → Arrives dividing 4 (at 15 f) 19 (Before n d s D 4 22)
eights_when n d s D f true e small pos h =
    let go = eights_clear f e in
    let lt : f 26 < f 21 = ltb-true (f 26) (f 21) e in
    let rest : go.0 26 ≡ f 26 = go.5 in
    weaker dividing (2 + 0) 4 (at 15 f) 19 (Before n d s D 4 22) (Before n d s D 4 22) (omega arith) (λ g x. x)
    (after dividing 2 0 (at 15 f) (at 19 go.0) 19 (Before n d s D 4 22) go.1
    (there dividing 0 go.0 19 (Before n d s D 4 22) (record {
      whole = rw go.7 (rw go.5 (shifted (f 29) D (f 26) n h.whole small pos));
      below = omega (arith, h.trial, rest, lt);
      trial = go.3 ∙ h.half;
      fits = omega (arith, h.fits);
      divisor = go.4 ∙ h.divisor;
      kept = go.6 ∙ h.kept;
    })))
eights_when n d s D f false e small pos h =
    let go = eights_set f e in
    let le : f 21 ≤ f 26 = ltb-false (f 26) (f 21) e in
    let rest : go.0 26 ≡ unsigned_difference (f 26) (f 21) = go.5 in
    let less : f 26 < 2 ^ 32 = omega (arith, h.whole) in
    let left : go.0 26 ≡ f 26 - 8 * D = omega (arith, h.trial, h.fits, rest, le) in
    let whole : deposited (f 29) 27 28 * D + f 26 ≡ n = shifted (f 29) D (f 26) n h.whole small pos in
    let taken : ((deposited (f 29) 27 28 + 8) % 2 ^ 32) * D + (f 26 - 8 * D) ≡ n = takes (deposited (f 29) 27 28) D (f 26) n 8 whole (omega (arith, h.trial, le)) pos small in
    after dividing 4 0 (at 15 f) (at 19 go.0) 19 (Before n d s D 4 22) go.1
    (there dividing 0 go.0 19 (Before n d s D 4 22) (record {
      whole = rw go.7 (rw left taken);
      below = omega (arith, h.below, left);
      trial = go.3 ∙ h.half;
      fits = omega (arith, h.fits);
      divisor = go.4 ∙ h.divisor;
      kept = go.6 ∙ h.kept;
    }))

-- ---- from a digit on

-- the quotient and the remainder of n by d; register 28 still has s
pub record Divided (n d s : ℕ) (f : ℕ → ℕ) : Type 0 where
  pub whole : f 29 * d + f 26 ≡ n
  pub below : f 26 < d
  pub kept : f 28 ≡ s

from_ones : (n d s D bound : ℕ) (f : ℕ → ℕ) → n < 2 ^ 32 → 0 < D → ((g : ℕ → ℕ) → After n d s D g → Arrives dividing bound (at 31 g) 33 (Divided n d s)) → Before n d s D 1 22 f → Arrives dividing (4 + bound) (at 27 f) 33 (Divided n d s)
from_ones n d s D bound f small pos k h = and_on dividing 4 bound (at 27 f) 31 33 (After n d s D) (Divided n d s) (ones_bit n d s D f small pos h) k

from_twos : (n d s D bound : ℕ) (f : ℕ → ℕ) → n < 2 ^ 32 → 0 < D → ((g : ℕ → ℕ) → After n d s D g → Arrives dividing bound (at 31 g) 33 (Divided n d s)) → Before n d s D 2 21 f → Arrives dividing (4 + (4 + bound)) (at 23 f) 33 (Divided n d s)
from_twos n d s D bound f small pos k h = and_on dividing 4 (4 + bound) (at 23 f) 27 33 (Before n d s D 1 22) (Divided n d s) (twos_bit n d s D f small pos h) (λ g b. from_ones n d s D bound g small pos k b)

from_fours : (n d s D bound : ℕ) (f : ℕ → ℕ) → n < 2 ^ 32 → 0 < D → ((g : ℕ → ℕ) → After n d s D g → Arrives dividing bound (at 31 g) 33 (Divided n d s)) → Before n d s D 4 22 f → Arrives dividing (4 + (4 + (4 + bound))) (at 19 f) 33 (Divided n d s)
from_fours n d s D bound f small pos k h = and_on dividing 4 (4 + (4 + bound)) (at 19 f) 23 33 (Before n d s D 2 21) (Divided n d s) (fours_bit n d s D f small pos h) (λ g b. from_twos n d s D bound g small pos k b)

from_eights : (n d s D bound : ℕ) (f : ℕ → ℕ) → n < 2 ^ 32 → 0 < D → ((g : ℕ → ℕ) → After n d s D g → Arrives dividing bound (at 31 g) 33 (Divided n d s)) → Digit n d s D f → Arrives dividing (4 + (4 + (4 + (4 + bound)))) (at 15 f) 33 (Divided n d s)
from_eights n d s D bound f small pos k h = and_on dividing 4 (4 + (4 + (4 + bound))) (at 15 f) 19 33 (Before n d s D 4 22) (Divided n d s) (eights_when n d s D f (nat_lt (f 26) (f 21)) refl small pos h) (λ g b. from_fours n d s D bound g small pos k b)

-- after a digit: the end, where the divisor is down again, and else the next digit
scaled_pos : (k d : ℕ) → 0 < d → 0 < scaled k d
scaled_pos zero d pos = pos
scaled_pos (suc k) d pos = let below : 0 < scaled k d = scaled_pos k d pos in omega arith

scaled_least : (k d : ℕ) → d ≤ scaled k d
scaled_least zero d = omega arith
scaled_least (suc k) d = let below : d ≤ scaled k d = scaled_least k d in omega arith

pub digits : (k n d s : ℕ) (f : ℕ → ℕ) → n < 2 ^ 32 → 0 < d → After n d s (scaled k d) f → Arrives dividing (18 * k + 2) (at 31 f) 33 (Divided n d s)
digits zero n d s f small pos h =
    let down : f 22 ≡ f 25 = h.trial ∙ sym h.divisor in
    let go = digit_last f (eq-eqb (f 22) (f 25) down) in
    weaker dividing (2 + 0) (18 * 0 + 2) (at 31 f) 33 (Divided n d s) (Divided n d s) (omega arith) (λ g x. x)
    (after dividing 2 0 (at 31 f) (at 33 go.0) 33 (Divided n d s) go.1
    (there dividing 0 go.0 33 (Divided n d s) (record {
      whole = rw go.7 (rw go.5 h.whole);
      below = rw go.5 h.below;
      kept = go.6 ∙ h.kept;
    })))
digits (suc k) n d s f small pos h =
    let D = scaled k d in
    let some : 0 < D = scaled_pos k d pos in
    let least : d ≤ D = scaled_least k d in
    let apart : f 22 ≡ f 25 → ⊥ = λ e. let same : 16 * D ≡ d = sym h.trial ∙ e ∙ h.divisor in omega (arith, same, some, least) in
    let go = digit_on f (ne_eqb (f 22) (f 25) apart) in
    let rest : go.0 26 ≡ f 26 = go.5 in
    let eight : go.0 21 ≡ f 21 = go.2 in
    let four : go.0 22 ≡ extracted (f 21) 30 31 = go.3 in
    weaker dividing (2 + (4 + (4 + (4 + (4 + (18 * k + 2)))))) (18 * suc k + 2) (at 31 f) 33 (Divided n d s) (Divided n d s) (omega arith) (λ g x. x)
    (after dividing 2 (4 + (4 + (4 + (4 + (18 * k + 2))))) (at 31 f) (at 15 go.0) 33 (Divided n d s) go.1
    (from_eights n d s D (18 * k + 2) go.0 small some (λ g a. digits k n d s g small pos a) (record {
      whole = rw go.7 (rw go.5 h.whole);
      below = omega (arith, h.below, rest);
      trial = omega (arith, h.half, eight);
      half = omega (arith, h.half, h.fits, four);
      fits = omega (arith, h.fits);
      divisor = go.4 ∙ h.divisor;
      kept = go.6 ∙ h.kept;
    })))

-- ---- the first digit

-- register 22 has the divisor as far as it has been shifted up, and the dividend is below 16 times that
pub record Raised (n d s D : ℕ) (f : ℕ → ℕ) : Type 0 where
  pub nothing : f 29 ≡ 0
  pub dividend : f 26 ≡ n
  pub below : n < 16 * D
  pub trial : f 22 ≡ D
  pub fits : D < 2 ^ 32
  pub divisor : f 25 ≡ d
  pub kept : f 28 ≡ s

-- the same with half the dividend in register 1, after a bit of weight j of the first digit was found to be too low
record Halved (n d s D j t : ℕ) (f : ℕ → ℕ) : Type 0 where
  half : f 1 ≡ n / 2
  nothing : f 29 ≡ 0
  dividend : f 26 ≡ n
  below : n < 16 * D
  trial : f t ≡ j * D
  fits : j * D < 2 ^ 32
  divisor : f 25 ≡ d
  kept : f 28 ≡ s

nothing_yet : (q D r n : ℕ) → q ≡ 0 → r ≡ n → q * D + r ≡ n
nothing_yet q D r n e h =
    let none : q * D ≡ 0 = ap (λ (k : ℕ). k * D) e ∙ zero-mul D in
    omega (arith, none, h)

third : (n d s D bound : ℕ) (f : ℕ → ℕ) (b : Bool) → nat_lt (f 1) (f 22) ≡ b → n < 2 ^ 32 → 0 < D → ((h : ℕ → ℕ) → After n d s D h → Arrives dividing bound (at 31 h) 33 (Divided n d s)) → Halved n d s D 4 22 f → Arrives dividing (2 + (4 + (4 + (4 + (4 + bound))))) (at 13 f) 33 (Divided n d s)
third n d s D bound f true e small pos k h =
    let go = third_bit f e in
    let lt : f 1 < f 22 = ltb-true (f 1) (f 22) e in
    let rest : go.0 26 ≡ n = go.5 ∙ h.dividend in
    weaker dividing (2 + (4 + (4 + (4 + bound)))) (2 + (4 + (4 + (4 + (4 + bound))))) (at 13 f) 33 (Divided n d s) (Divided n d s) (omega arith) (λ g x. x)
    (after dividing 2 (4 + (4 + (4 + bound))) (at 13 f) (at 19 go.0) 33 (Divided n d s) go.1
    (from_fours n d s D bound go.0 small pos k (record {
      whole = nothing_yet (go.0 29) D (go.0 26) n (go.7 ∙ h.nothing) rest;
      below = omega (arith, h.half, h.trial, lt, rest);
      trial = go.3 ∙ h.trial;
      fits = h.fits;
      divisor = go.4 ∙ h.divisor;
      kept = go.6 ∙ h.kept;
    })))
third n d s D bound f false e small pos k h =
    let go = fourth_on f e in
    let le : f 22 ≤ f 1 = ltb-false (f 1) (f 22) e in
    let rest : go.0 26 ≡ n = go.5 ∙ h.dividend in
    let eight : go.0 21 ≡ (f 22 + f 22) % 2 ^ 32 = go.2 in
    after dividing 2 (4 + (4 + (4 + (4 + bound)))) (at 13 f) (at 15 go.0) 33 (Divided n d s) go.1
    (from_eights n d s D bound go.0 small pos k (record {
      whole = nothing_yet (go.0 29) (16 * D) (go.0 26) n (go.7 ∙ h.nothing) rest;
      below = omega (arith, h.below, rest);
      trial = omega (arith, h.half, h.trial, le, eight, small);
      half = go.3 ∙ h.trial;
      fits = omega (arith, h.half, h.trial, le, small);
      divisor = go.4 ∙ h.divisor;
      kept = go.6 ∙ h.kept;
    }))

second : (n d s D bound : ℕ) (f : ℕ → ℕ) (b : Bool) → nat_lt (f 1) (f 21) ≡ b → n < 2 ^ 32 → 0 < D → ((h : ℕ → ℕ) → After n d s D h → Arrives dividing bound (at 31 h) 33 (Divided n d s)) → Halved n d s D 2 21 f → Arrives dividing (2 + (2 + (4 + (4 + (4 + (4 + bound)))))) (at 11 f) 33 (Divided n d s)
second n d s D bound f true e small pos k h =
    let go = second_bit f e in
    let lt : f 1 < f 21 = ltb-true (f 1) (f 21) e in
    let rest : go.0 26 ≡ n = go.5 ∙ h.dividend in
    weaker dividing (2 + (4 + (4 + bound))) (2 + (2 + (4 + (4 + (4 + (4 + bound)))))) (at 11 f) 33 (Divided n d s) (Divided n d s) (omega arith) (λ g x. x)
    (after dividing 2 (4 + (4 + bound)) (at 11 f) (at 23 go.0) 33 (Divided n d s) go.1
    (from_twos n d s D bound go.0 small pos k (record {
      whole = nothing_yet (go.0 29) D (go.0 26) n (go.7 ∙ h.nothing) rest;
      below = omega (arith, h.half, h.trial, lt, rest);
      trial = go.2 ∙ h.trial;
      fits = h.fits;
      divisor = go.4 ∙ h.divisor;
      kept = go.6 ∙ h.kept;
    })))
second n d s D bound f false e small pos k h =
    let go = third_on f e in
    let le : f 21 ≤ f 1 = ltb-false (f 1) (f 21) e in
    let four : go.0 22 ≡ (f 21 + f 21) % 2 ^ 32 = go.3 in
    after dividing 2 (2 + (4 + (4 + (4 + (4 + bound))))) (at 11 f) (at 13 go.0) 33 (Divided n d s) go.1
    (third n d s D bound go.0 (nat_lt (go.0 1) (go.0 22)) refl small pos k (record {
      half = go.8 ∙ h.half;
      nothing = go.7 ∙ h.nothing;
      dividend = go.5 ∙ h.dividend;
      below = h.below;
      trial = omega (arith, h.half, h.trial, le, four, small);
      fits = omega (arith, h.half, h.trial, le, small);
      divisor = go.4 ∙ h.divisor;
      kept = go.6 ∙ h.kept;
    }))

first : (n d s D bound : ℕ) (f : ℕ → ℕ) (b : Bool) → nat_lt (f 1) (f 22) ≡ b → n < 2 ^ 32 → 0 < D → ((h : ℕ → ℕ) → After n d s D h → Arrives dividing bound (at 31 h) 33 (Divided n d s)) → Halved n d s D 1 22 f → Arrives dividing (2 + (2 + (2 + (4 + (4 + (4 + (4 + bound))))))) (at 9 f) 33 (Divided n d s)
first n d s D bound f true e small pos k h =
    let go = first_bit f e in
    let lt : f 1 < f 22 = ltb-true (f 1) (f 22) e in
    let rest : go.0 26 ≡ n = go.5 ∙ h.dividend in
    weaker dividing (2 + (4 + bound)) (2 + (2 + (2 + (4 + (4 + (4 + (4 + bound))))))) (at 9 f) 33 (Divided n d s) (Divided n d s) (omega arith) (λ g x. x)
    (after dividing 2 (4 + bound) (at 9 f) (at 27 go.0) 33 (Divided n d s) go.1
    (from_ones n d s D bound go.0 small pos k (record {
      whole = nothing_yet (go.0 29) D (go.0 26) n (go.7 ∙ h.nothing) rest;
      below = omega (arith, h.half, h.trial, lt, rest);
      trial = go.3 ∙ h.trial;
      fits = h.fits;
      divisor = go.4 ∙ h.divisor;
      kept = go.6 ∙ h.kept;
    })))
first n d s D bound f false e small pos k h =
    let go = second_on f e in
    let le : f 22 ≤ f 1 = ltb-false (f 1) (f 22) e in
    let two : go.0 21 ≡ (f 22 + f 22) % 2 ^ 32 = go.2 in
    after dividing 2 (2 + (2 + (4 + (4 + (4 + (4 + bound)))))) (at 9 f) (at 11 go.0) 33 (Divided n d s) go.1
    (second n d s D bound go.0 (nat_lt (go.0 1) (go.0 21)) refl small pos k (record {
      half = go.8 ∙ h.half;
      nothing = go.7 ∙ h.nothing;
      dividend = go.5 ∙ h.dividend;
      below = h.below;
      trial = omega (arith, h.half, h.trial, le, two, small);
      fits = omega (arith, h.half, h.trial, le, small);
      divisor = go.4 ∙ h.divisor;
      kept = go.6 ∙ h.kept;
    }))

-- from the first digit to the end
pub from_raised : (k n d s : ℕ) (f : ℕ → ℕ) → n < 2 ^ 32 → 0 < d → k ≤ 7 → Raised n d s (scaled k d) f → Arrives dividing 151 (at 8 f) 33 (Divided n d s)
from_raised k n d s f small pos seven h =
    let D = scaled k d in
    let go = halved f in
    weaker dividing (1 + (2 + (2 + (2 + (4 + (4 + (4 + (4 + (18 * k + 2))))))))) 151 (at 8 f) 33 (Divided n d s) (Divided n d s) (omega arith) (λ g x. x)
    (after dividing 1 (2 + (2 + (2 + (4 + (4 + (4 + (4 + (18 * k + 2)))))))) (at 8 f) (at 9 go.0) 33 (Divided n d s) go.1
    (first n d s D (18 * k + 2) go.0 (nat_lt (go.0 1) (go.0 22)) refl small (scaled_pos k d pos) (λ g a. digits k n d s g small pos a) (record {
      half = let half : go.0 1 ≡ extracted (f 26) 30 31 = go.8 in omega (arith, half, h.dividend, small);
      nothing = go.7 ∙ h.nothing;
      dividend = go.5 ∙ h.dividend;
      below = h.below;
      trial = let same : go.0 22 ≡ f 22 = go.3 in omega (arith, same, h.trial);
      fits = omega (arith, h.fits);
      divisor = go.4 ∙ h.divisor;
      kept = go.6 ∙ h.kept;
    })))

-- ---- shifting the divisor up

-- register 22 has the divisor as far as it has been shifted up, which 16 times more is not above the dividend
pub record Rising (n d s D : ℕ) (f : ℕ → ℕ) : Type 0 where
  pub part : f 1 ≡ n / 256
  pub nothing : f 29 ≡ 0
  pub dividend : f 26 ≡ n
  pub low : D ≤ n / 16
  pub trial : f 22 ≡ D
  pub divisor : f 25 ≡ d
  pub kept : f 28 ≡ s

rises_last : (k n d s : ℕ) (f : ℕ → ℕ) → n < 2 ^ 32 → 0 < d → suc k ≤ 7 → nat_le (f 22) (f 1) ≡ false → Rising n d s (scaled k d) f → Arrives dividing (2 + 151) (at 6 f) 33 (Divided n d s)
rises_last k n d s f small pos seven e h =
    let D = scaled k d in
    let go = shift_last f e in
    let lt : f 1 < f 22 = leb-false (f 22) (f 1) e in
    let up : go.0 22 ≡ deposited (f 22) 27 28 = go.3 in
    after dividing 2 151 (at 6 f) (at 8 go.0) 33 (Divided n d s) go.1
    (from_raised (suc k) n d s go.0 small pos seven (record {
      nothing = go.7 ∙ h.nothing;
      dividend = go.5 ∙ h.dividend;
      below = omega (arith, h.part, h.trial, lt);
      trial = omega (arith, h.trial, h.low, up, small);
      fits = omega (arith, h.low, small);
      divisor = go.4 ∙ h.divisor;
      kept = go.6 ∙ h.kept;
    }))

scaled_six : (d : ℕ) → scaled 6 d ≡ 16777216 * d
scaled_six d = omega arith

-- u is how often the divisor may be shifted up after this time
rises_when : (u k n d s : ℕ) (f : ℕ → ℕ) (b : Bool) → nat_le (f 22) (f 1) ≡ b → k + u ≡ 6 → n < 2 ^ 32 → 0 < d → ((g : ℕ → ℕ) → (v : ℕ) → u ≡ suc v → Rising n d s (scaled (suc k) d) g → Arrives dividing (2 * suc v + 151) (at 6 g) 33 (Divided n d s)) → Rising n d s (scaled k d) f → Arrives dividing (2 * suc u + 151) (at 6 f) 33 (Divided n d s)
rises_when u k n d s f false e six small pos on h =
    weaker dividing (2 + 151) (2 * suc u + 151) (at 6 f) 33 (Divided n d s) (Divided n d s) (omega arith) (λ g x. x)
    (rises_last k n d s f small pos (omega arith) e h)
rises_when zero k n d s f true e six small pos on h =
    let le : f 22 ≤ f 1 = leb-true (f 22) (f 1) e in
    let at_six : k ≡ 6 = omega arith in
    let big : scaled k d ≡ 16777216 * d = ap (λ (j : ℕ). scaled j d) at_six ∙ scaled_six d in
    absurd (omega (arith, le, h.part, h.trial, big))
rises_when (suc v) k n d s f true e six small pos on h =
    let D = scaled k d in
    let go = shift_on f e in
    let le : f 22 ≤ f 1 = leb-true (f 22) (f 1) e in
    let up : go.0 22 ≡ deposited (f 22) 27 28 = go.3 in
    weaker dividing (2 + (2 * suc v + 151)) (2 * suc (suc v) + 151) (at 6 f) 33 (Divided n d s) (Divided n d s) (omega arith) (λ g x. x)
    (after dividing 2 (2 * suc v + 151) (at 6 f) (at 6 go.0) 33 (Divided n d s) go.1
    (on go.0 v refl (record {
      part = go.8 ∙ h.part;
      nothing = go.7 ∙ h.nothing;
      dividend = go.5 ∙ h.dividend;
      low = omega (arith, h.part, h.trial, le);
      trial = omega (arith, h.trial, h.low, up, small);
      divisor = go.4 ∙ h.divisor;
      kept = go.6 ∙ h.kept;
    })))

pub rises : (u k n d s : ℕ) (f : ℕ → ℕ) → k + u ≡ 6 → n < 2 ^ 32 → 0 < d → Rising n d s (scaled k d) f → Arrives dividing (2 * suc u + 151) (at 6 f) 33 (Divided n d s)
rises zero k n d s f six small pos h = rises_when zero k n d s f (nat_le (f 22) (f 1)) refl six small pos (λ g v e r. absurd cc) h
rises (suc u) k n d s f six small pos h =
    rises_when (suc u) k n d s f (nat_le (f 22) (f 1)) refl six small pos
    (λ g v e r. let same : u ≡ v = cc in subst (λ (j : ℕ). Arrives dividing (2 * suc j + 151) (at 6 g) 33 (Divided n d s)) same (rises u (suc k) n d s g (omega arith) small pos r)) h

-- ---- the whole

-- register 28 is as it was, and where there is a divisor, the quotient and the remainder are there
pub record Ready (n d s : ℕ) (f : ℕ → ℕ) : Type 0 where
  pub kept : f 28 ≡ s
  pub divided : d ≢ 0 → Divided n d s f

long_or_short : (f : ℕ → ℕ) (n d s : ℕ) (b : Bool) → nat_lt (f 1) (f 25) ≡ b → n < 2 ^ 32 → d < 2 ^ 32 → 0 < d → f 1 ≡ n / 16 → f 29 ≡ 0 → f 26 ≡ n → f 25 ≡ d → f 28 ≡ s → Arrives dividing 168 (at 3 f) 33 (Divided n d s)
long_or_short f n d s true e small fits pos part none dividend divisor kept =
    let go = short_quotient f e in
    let lt : f 1 < f 25 = ltb-true (f 1) (f 25) e in
    let trial : go.0 22 ≡ d = go.3 ∙ or_zero_r (f 25) ∙ divisor in
    weaker dividing (2 + 151) 168 (at 3 f) 33 (Divided n d s) (Divided n d s) (omega arith) (λ g x. x)
    (after dividing 2 151 (at 3 f) (at 8 go.0) 33 (Divided n d s) go.1
    (from_raised 0 n d s go.0 small pos (omega arith) (record {
      nothing = go.7 ∙ none;
      dividend = go.5 ∙ dividend;
      below = omega (arith, lt, part, divisor);
      trial = trial;
      fits = fits;
      divisor = go.4 ∙ divisor;
      kept = go.6 ∙ kept;
    })))
long_or_short f n d s false e small fits pos part none dividend divisor kept =
    let go = long_quotient f e in
    let le : f 25 ≤ f 1 = ltb-false (f 1) (f 25) e in
    let more = lesser_part go.0 in
    let trial : more.0 22 ≡ d = more.3 ∙ go.3 ∙ or_zero_r (f 25) ∙ divisor in
    let dividend' : go.0 26 ≡ n = go.5 ∙ dividend in
    let a256th : more.0 1 ≡ extracted (go.0 26) 23 24 = more.8 in
    weaker dividing (2 + (1 + (2 * suc 6 + 151))) 168 (at 3 f) 33 (Divided n d s) (Divided n d s) (omega arith) (λ g x. x)
    (after dividing 2 (1 + (2 * suc 6 + 151)) (at 3 f) (at 5 go.0) 33 (Divided n d s) go.1
    (after dividing 1 (2 * suc 6 + 151) (at 5 go.0) (at 6 more.0) 33 (Divided n d s) more.1
    (rises 6 0 n d s more.0 refl small pos (record {
      part = omega (arith, a256th, dividend', small);
      nothing = more.7 ∙ go.7 ∙ none;
      dividend = more.5 ∙ dividend';
      low = omega (arith, le, part, divisor);
      trial = trial;
      divisor = more.4 ∙ go.4 ∙ divisor;
      kept = more.6 ∙ go.6 ∙ kept;
    }))))

by_divisor : (f : ℕ → ℕ) (b : Bool) → (f 25 == 0) ≡ b → f 26 < 2 ^ 32 → f 25 < 2 ^ 32 → Arrives dividing 171 (at 0 f) 33 (Ready (f 26) (f 25) (f 28))
by_divisor f true e small fits =
    let go = zero_divisor f e in
    let none : f 25 ≡ 0 = eqb-true (f 25) 0 e in
    let Q = Ready (f 26) (f 25) (f 28) in
    weaker dividing (2 + 0) 171 (at 0 f) 33 Q Q (omega arith) (λ g x. x)
    (after dividing 2 0 (at 0 f) (at 33 go.0) 33 Q go.1
    (there dividing 0 go.0 33 Q (record { kept = go.6; divided = λ some. absurd (some none) })))
by_divisor f false e small fits =
    let go = some_divisor f e in
    let some : f 25 ≡ 0 → ⊥ = eqb-false (f 25) 0 e in
    let pos : 0 < f 25 = omega (arith, some) in
    let more = sixteenth go.0 in
    let a16th : more.0 1 ≡ extracted (go.0 26) 27 28 = more.8 in
    let same : go.0 26 ≡ f 26 = go.5 in
    let Q = Divided (f 26) (f 25) (f 28) in
    weaker dividing (2 + (1 + 168)) 171 (at 0 f) 33 Q (Ready (f 26) (f 25) (f 28)) (omega arith) (λ g x. record { kept = x.kept; divided = λ d. x })
    (after dividing 2 (1 + 168) (at 0 f) (at 2 go.0) 33 Q go.1
    (after dividing 1 168 (at 2 go.0) (at 3 more.0) 33 Q more.1
    (long_or_short more.0 (f 26) (f 25) (f 28) (nat_lt (more.0 1) (more.0 25)) refl small fits pos (omega (arith, a16th, same, small)) (more.7 ∙ go.7) (more.5 ∙ same) (more.4 ∙ go.4) (more.6 ∙ go.6))))

-- the code of the unsigned division
pub divides : (f : ℕ → ℕ) → f 26 < 2 ^ 32 → f 25 < 2 ^ 32 → Arrives dividing 171 (at 0 f) 33 (Ready (f 26) (f 25) (f 28))
divides f small fits = by_divisor f (f 25 == 0) refl small fits
