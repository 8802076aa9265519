-- Moves, distances and quotients as whole numbers.
use Rattle.std.proofs.Common.{ℕ, zero, suc, ◌-◌, ◌*◌, ◌/◌, ◌^◌, ◌<◌, ◌≤◌, ◌≡◌, refl, sym, ap, ◌∙◌, Bool, true, false, None, Some, arith, zero-mul}
use Rattle.std.specs.Prelude.{pos, neg_ℤ, ◌-ℤ◌, ◌*ℤ◌, not, nat_le, nat_lt, unsigned_abs, int_div, if◌then◌else◌}
use Rattle.std.proofs.lemmas.Bool.Decides.{nat_tests}
use native.Mathlib.Nat.{zero-div}
use Rattle.std.proofs.lemmas.Grind.{common_steps}
use Rattle.std.proofs.lemmas.Int.{ints}
use Rattle.pw_value.specs.declared.value.Value.TheVariants as V
use Rattle.pw_value.specs.Words.{signed, exact, int_max, is_negative, magnitude}
use Rattle.pw_types.specs.declared.kind.IntKind.{IntKind}
use Rattle.pw_types.specs.Conversions.{is_signed_kind}
use Rattle.pw_cmean.specs.Operators.{further}
use Rattle.pw_interp_state.specs.Moves.{turned, int_forward, int_backward}
use Rattle.pw_interp_state.specs.Operations.{element_bytes}

pub further_back : (offset n : ℕ) → further offset (neg_ℤ (pos n)) ≡ (if nat_le n offset then Some (offset - n) else None)
further_back offset zero = grind (arith, common_steps)
further_back offset (suc n) = grind (arith, common_steps)

-- ---- so many elements

-- the number that a word stands for, where its upper half is negative
signed_low : (n : ℕ) → n < 2 ^ 31 → signed n ≡ pos n
signed_low n h = omega (arith, ints)

signed_high : (n : ℕ) → 2 ^ 31 ≤ n → n < 2 ^ 32 → signed n ≡ neg_ℤ (pos (2 ^ 32 - n))
signed_high n h k =
    let e : 2 ^ 32 - n ≡ suc (2 ^ 32 - 1 - n) = omega arith in
    rw e (grind (arith, ints))

negated_product : (m size : ℕ) → neg_ℤ (pos m) *ℤ pos size ≡ neg_ℤ (pos (m * size))
negated_product zero size = rw zero-mul refl
negated_product (suc m) size = refl

negated_twice : (n : ℕ) → neg_ℤ (neg_ℤ (pos n)) ≡ pos n
negated_twice zero = refl
negated_twice (suc n) = refl

pub element_none : (back : Bool) (size : ℕ) → turned back (pos 0 *ℤ pos size) ≡ pos 0
element_none true size = rw zero-mul refl
element_none false size = rw zero-mul refl

-- the number that a word of a kind stands for
whole : (sign : Bool) (n : ℕ) → n < 2 ^ 32
    → (if sign then signed n else pos n) ≡ (if is_negative sign n then neg_ℤ (pos (2 ^ 32 - n)) else pos n)
whole false n h = refl
whole true n h = halves (nat_lt int_max n) refl
  where
    halves : (b : Bool) → nat_lt int_max n ≡ b → signed n ≡ (if b then neg_ℤ (pos (2 ^ 32 - n)) else pos n)
    halves true e = signed_high n (grind (arith, nat_tests)) h
    halves false e = signed_low n (grind (arith, nat_tests))

product : (negative back : Bool) (n size : ℕ)
    → turned (if back then not negative else negative) (pos (magnitude negative n * size))
    ≡ turned back ((if negative then neg_ℤ (pos (2 ^ 32 - n)) else pos n) *ℤ pos size)
product true true n size = rw (negated_product (2 ^ 32 - n) size) (sym (negated_twice ((2 ^ 32 - n) * size)))
product true false n size = rw (negated_product (2 ^ 32 - n) size) refl
product false true n size = refl
product false false n size = refl

pub element_is : (back : Bool) (kind : IntKind) (n size : ℕ) → n < 2 ^ 32
    → turned (if back then not (is_negative (is_signed_kind kind) n) else is_negative (is_signed_kind kind) n) (pos (magnitude (is_negative (is_signed_kind kind) n) n * size))
    ≡ element_bytes back kind (V.Num n) size
element_is back kind n size h = product (is_negative (is_signed_kind kind) n) back n size ∙ ap (λ z. turned back (z *ℤ pos size)) (sym (whole (is_signed_kind kind) n h))

-- ---- distances

distance_on : (p q : ℕ) → q ≤ p → pos p -ℤ pos q ≡ pos (p - q)
distance_on p q h = omega (arith, ints)

distance_back : (p q : ℕ) → p < q → pos p -ℤ pos q ≡ neg_ℤ (pos (q - p))
distance_back p q h = omega (arith, ints)

abs_negated : (n : ℕ) → unsigned_abs (neg_ℤ (pos n)) ≡ n
abs_negated zero = refl
abs_negated (suc n) = refl

pub abs_on : (p q : ℕ) → q ≤ p → unsigned_abs (pos p -ℤ pos q) ≡ p - q
abs_on p q h = rw (distance_on p q h) refl

pub abs_back : (p q : ℕ) → p < q → unsigned_abs (pos p -ℤ pos q) ≡ q - p
abs_back p q h = rw (distance_back p q h) (abs_negated (q - p))

divided_back : (n size : ℕ) → int_div (neg_ℤ (pos n)) (pos size) ≡ neg_ℤ (pos (n / size))
divided_back zero size = rw zero-div refl
divided_back (suc n) size = refl

pub quotient_on : (p q size : ℕ) → q ≤ p → exact (int_div (pos p -ℤ pos q) (pos size)) ≡ int_forward ((p - q) / size)
quotient_on p q size h = rw (distance_on p q h) refl

pub quotient_back : (p q size : ℕ) → p < q → exact (int_div (pos p -ℤ pos q) (pos size)) ≡ int_backward ((q - p) / size)
quotient_back p q size h = rw (distance_back p q h, divided_back (q - p) size) refl
