-- Signed words: their signs, their absolute values, and the quotient and the remainder by these.
use Rattle.std.proofs.Common.{ℕ, zero, suc, ℤ, pos, negsuc, ◌+◌, ◌-◌, ◌*◌, ◌/◌, ◌%◌, ◌^◌, ◌<◌, ◌≤◌, ◌≡◌, inl, inr, Bool, true, false, refl, sym, ap, ◌∙◌, arith}
use Rattle.std.specs.Prelude.{bit_xor, int_lt, int_div, int_rem, neg_ℤ, unsigned_abs, if◌then◌else◌}
use Rattle.std.specs.Int.{cast_signed, cast_unsigned, w32}
use Rattle.std.proofs.lemmas.Bool.{cases_lt, cond-false, le-ltb}
use Rattle.std.proofs.lemmas.Int.{ints}
use Rattle.std.proofs.lemmas.Nat.{xor_shr, div-mul-add, mod-mul-add}
use Rattle.std.proofs.Math.Nat.{le-mul_of_pos_right}
use Rattle.pw_value.specs.Words.{unsigned_difference}

-- whether a word is below 0
abbrev pub is_negative : ℕ → Bool
is_negative x = int_lt (cast_signed w32 x) (pos 0)

-- a word, or what is left of 2^32
abbrev pub signed_by : Bool → ℕ → ℕ
signed_by b x = if b then unsigned_difference 0 x else x

-- whether a number is below 0
abbrev pub below : ℤ → Bool
below (pos n) = false
below (negsuc n) = true

-- one is, and the other is not
abbrev pub differ : Bool → Bool → Bool
differ b c = if b then (if c then false else true) else c

-- how a word is read with its sign
pub record Sign (x : ℕ) (z : ℤ) : Type 0 where
  pub negative : is_negative x ≡ below z
  pub reads : cast_signed w32 x ≡ z
  pub absolute : signed_by (below z) x ≡ unsigned_abs z
  pub top : x / 2 ^ 31 ≡ (if below z then 1 else 0)
  pub small : unsigned_abs z < 2 ^ 32

reads_pos : (x : ℕ) → x < 2 ^ 31 → cast_signed w32 x ≡ pos x
reads_pos x lt = omega (arith, ints)

reads_neg : (x m : ℕ) → x < 2 ^ 32 → 2 ^ 31 ≤ x → suc m + x ≡ 2 ^ 32 → cast_signed w32 x ≡ negsuc m
reads_neg x m lt le e = cond-false _ _ _ (le-ltb x (2 ^ 31) le) ∙ ap negsuc (omega arith)

sign_pos : (x : ℕ) → x < 2 ^ 31 → Sign x (pos x)
sign_pos x lt =
    let reads : cast_signed w32 x ≡ pos x = reads_pos x lt in
    record {
      negative = rw reads (le-ltb x 0 (omega arith));
      reads = reads;
      absolute = refl;
      top = omega arith;
      small = omega arith;
    }

sign_neg : (x : ℕ) → x < 2 ^ 32 → 2 ^ 31 ≤ x → Sign x (negsuc (2 ^ 32 - 1 - x))
sign_neg x lt le =
    let reads : cast_signed w32 x ≡ negsuc (2 ^ 32 - 1 - x) = reads_neg x (2 ^ 32 - 1 - x) lt le (omega arith) in
    record {
      negative = rw reads refl;
      reads = reads;
      absolute = omega arith;
      top = omega arith;
      small = omega arith;
    }

pub sign_of : (x : ℕ) → x < 2 ^ 32 → (z : ℤ) × Sign x z
sign_of x lt = elim (cases_lt x (2 ^ 31)) as (λ c. (z : ℤ) × Sign x z) [ inl less ↦ (pos x, sign_pos x less) | inr more ↦ (negsuc (2 ^ 32 - 1 - x), sign_neg x lt more) ]

-- the word of a number that is not above 0
word_of_negative : (q : ℕ) → q < 2 ^ 32 → cast_unsigned w32 (neg_ℤ (pos q)) ≡ unsigned_difference 0 q
word_of_negative zero lt = refl
word_of_negative (suc q) lt = omega arith

-- the sign of an exclusive or

top_clear : (v : ℕ) → v / 2 ^ 31 ≡ 0 → is_negative v ≡ false
top_clear v e = (sign_pos v (omega arith)).negative

top_set : (v : ℕ) → v / 2 ^ 31 ≡ 1 → is_negative v ≡ true
top_set v e = (sign_neg v (omega arith) (omega arith)).negative

xor_top : (v : ℕ) (b c : Bool) → v / 2 ^ 31 ≡ bit_xor (if b then 1 else 0) (if c then 1 else 0) → is_negative v ≡ differ b c
xor_top v true true e = top_clear v e
xor_top v true false e = top_set v e
xor_top v false true e = top_set v e
xor_top v false false e = top_clear v e

pub xor_negative : (x y : ℕ) (z w : ℤ) → Sign x z → Sign y w → is_negative (bit_xor x y) ≡ differ (below z) (below w)
xor_negative x y z w sx sy =
    xor_top (bit_xor x y) (below z) (below w)
    (xor_shr x y 31 ∙ ap (λ (k : ℕ). bit_xor k (y / 2 ^ 31)) sx.top ∙ ap (λ (k : ℕ). bit_xor (if below z then 1 else 0) k) sy.top)

-- ---- the quotient and the remainder

pub quotient_is : (q d r n : ℕ) → q * d + r ≡ n → r < d → n / d ≡ q
quotient_is q d r n e lt = ap (λ (k : ℕ). k / d) (sym e) ∙ div-mul-add q d r lt

pub remainder_is : (q d r n : ℕ) → q * d + r ≡ n → r < d → n % d ≡ r
remainder_is q d r n e lt = ap (λ (k : ℕ). k % d) (sym e) ∙ mod-mul-add q d r lt

quotient_small : (q d r n : ℕ) → q * d + r ≡ n → r < d → n < 2 ^ 32 → q < 2 ^ 32
quotient_small q d r n e lt small =
    let pos : 0 < d = omega arith in
    let le : q ≤ q * d = le-mul_of_pos_right q pos in
    omega (arith, le, e)

remainder_small : (q d r n : ℕ) → q * d + r ≡ n → n < 2 ^ 32 → r < 2 ^ 32
remainder_small q d r n e small = omega (arith, e)

pub signed_quotient : (z w : ℤ) (q r : ℕ) → q * unsigned_abs w + r ≡ unsigned_abs z → r < unsigned_abs w → unsigned_abs z < 2 ^ 32 → signed_by (differ (below z) (below w)) q ≡ cast_unsigned w32 (int_div z w)
signed_quotient (pos k) (pos l) q r e lt small = sym (quotient_is q l r k e lt)
signed_quotient (pos k) (negsuc l) q r e lt small = rw (quotient_is q (suc l) r k e lt) (sym (word_of_negative q (quotient_small q (suc l) r k e lt small)))
signed_quotient (negsuc k) (pos l) q r e lt small = rw (quotient_is q l r (suc k) e lt) (sym (word_of_negative q (quotient_small q l r (suc k) e lt small)))
signed_quotient (negsuc k) (negsuc l) q r e lt small = sym (quotient_is q (suc l) r (suc k) e lt)

pub signed_remainder : (z w : ℤ) (q r : ℕ) → q * unsigned_abs w + r ≡ unsigned_abs z → r < unsigned_abs w → unsigned_abs z < 2 ^ 32 → signed_by (below z) r ≡ cast_unsigned w32 (int_rem z w)
signed_remainder (pos k) (pos l) q r e lt small = sym (remainder_is q l r k e lt)
signed_remainder (pos k) (negsuc l) q r e lt small = sym (remainder_is q (suc l) r k e lt)
signed_remainder (negsuc k) (pos l) q r e lt small = rw (remainder_is q l r (suc k) e lt) (sym (word_of_negative r (remainder_small q l r (suc k) e small)))
signed_remainder (negsuc k) (negsuc l) q r e lt small = rw (remainder_is q (suc l) r (suc k) e lt) (sym (word_of_negative r (remainder_small q (suc l) r (suc k) e small)))
