-- Shifts of a word, as two words side by side that are shifted to the right.
use Rattle.std.proofs.Common.{ℕ, ℤ, suc, pos, negsuc, ◌≡◌, ◌+◌, ◌-◌, ◌*◌, ◌/◌, ◌%◌, ◌^◌, ◌<◌, ◌≤◌, ◌⊎◌, inl, inr, refl, ap, sym, ◌∙◌, arith, Bool, true, false, if◌then◌else◌, pow_pos, pow-add, div-add-mod', mod-lt, mod-eq_of_lt, mul-div_cancel, add-mul, mul_assoc, mul_comm, suc-mul, div-le_self, le_trans, nat_lt, lt-ltb, le-ltb}
use lib.Arith.{digits_div}
use mir.Val.{sel}
use Rattle.std.specs.Int.{w32, cast_signed, cast_unsigned, int_shr}
use Rattle.std.proofs.lemmas.Bool.{cases_lt}
use Rattle.std.proofs.lemmas.Bool.Decides.{nat_tests}
use Rattle.pw_inst.specs.Computing.{extracted, sign_extended, deposited}
use Rattle.pw_value.specs.Words.{unsigned_difference, signed, word}

-- the amount of a shift to the left, as one to the right
pub left_amount : (b : ℕ) → b < 32 → unsigned_difference (cast_unsigned w32 (pos 31)) b % 32 ≡ 31 - b
left_amount b small = omega (arith, small)

pub right_amount : (b : ℕ) → b < 32 → b % 32 ≡ b
right_amount b small = omega (arith, small)

two_powers : (b n : ℕ) → b ≤ n → 2 ^ b * 2 ^ (n - b) ≡ 2 ^ n
two_powers b n le = let e : b + (n - b) ≡ n = omega (arith, le) in sym (pow-add 2 b (n - b)) ∙ ap (λ k. 2 ^ k) e

pub shl_word : (a b : ℕ) → a < 2 ^ 32 → b < 32 → (extracted a 30 31 * 2 ^ 32 + deposited a 0 1) / 2 ^ (31 - b) % 2 ^ 32 ≡ a * 2 ^ b % 2 ^ 32
shl_word a b word small =
    let e : a / 2 ^ 1 % 2 ^ 31 * 2 ^ 32 + a % 2 ^ 1 * 2 ^ 31 ≡ a * 2 ^ 31 = omega (arith, word) in
    let f : a * 2 ^ 31 ≡ a * 2 ^ b * 2 ^ (31 - b) =
    ap (λ n. a * n) (sym (two_powers b 31 (omega (arith, small)))) ∙ sym (mul_assoc a (2 ^ b) (2 ^ (31 - b))) in
    ap (λ n. n / 2 ^ (31 - b) % 2 ^ 32) (e ∙ f) ∙ ap (λ n. n % 2 ^ 32) (mul-div_cancel (a * 2 ^ b) (pow_pos (31 - b)))

pub shr_word : (a b : ℕ) → a < 2 ^ 32 → (0 * 2 ^ 32 + a) / 2 ^ b % 2 ^ 32 ≡ a / 2 ^ b
shr_word a b small =
    let e : 0 * 2 ^ 32 + a ≡ a = omega arith in
    ap (λ n. n / 2 ^ b % 2 ^ 32) e ∙ mod-eq_of_lt (let le = div-le_self a (2 ^ b) in omega (arith, le, small))

-- ---- with the sign

low_sign : (a : ℕ) → a < 2 ^ 31 → sign_extended 1 (extracted a 0 1) ≡ 0
low_sign a small = grind (arith, nat_tests)

high_sign : (a : ℕ) → 2 ^ 31 ≤ a → a < 2 ^ 32 → sign_extended 1 (extracted a 0 1) ≡ 2 ^ 32 - 1
high_sign a high small = grind (arith, nat_tests)

low_signed : (a : ℕ) → a < 2 ^ 31 → signed a ≡ pos a
low_signed a small = ap (λ (t : Bool). sel t (pos a) (negsuc (2 ^ 32 - suc a))) (lt-ltb a (2 ^ 31) small)

high_signed : (a : ℕ) → 2 ^ 31 ≤ a → a < 2 ^ 32 → signed a ≡ negsuc (2 ^ 32 - suc a)
high_signed a high small = ap (λ (t : Bool). sel t (pos a) (negsuc (2 ^ 32 - suc a))) (le-ltb a (2 ^ 31) high)

-- ones in front of a word: what is left of its distance from them, rounded down
ones_shifted : (a b m : ℕ) → a + suc m ≡ 2 ^ 32 → b < 32 → ((2 ^ 32 - 1) * 2 ^ 32 + a) / 2 ^ b % 2 ^ 32 ≡ 2 ^ 32 - suc (m / 2 ^ b)
ones_shifted a b m is small =
    let d = 2 ^ b in
    let e = 2 ^ (32 - b) in
    let q = m / d in
    let r = m % d in
    let some : 0 < d = pow_pos b in
    let more : 0 < e = pow_pos (32 - b) in
    let whole : d * e ≡ 2 ^ 32 = two_powers b 32 (omega (arith, small)) in
    let split : q * d + r ≡ m = div-add-mod' m d in
    let less : r < d = mod-lt m some in
    let low : q ≤ m = div-le_self m d in
    let k = e * 2 ^ 32 - suc q in
    let sum : k + suc q ≡ e * 2 ^ 32 = omega (arith, more, low, is) in
    let times : (k + suc q) * d ≡ 2 ^ 32 * 2 ^ 32 =
    ap (λ n. n * d) sum ∙ (ap (λ n. n * d) (mul_comm e (2 ^ 32)) ∙ (mul_assoc (2 ^ 32) e d ∙ ap (λ n. 2 ^ 32 * n) (mul_comm e d ∙ whole))) in
    let parts : k * d + (q * d + d) ≡ 2 ^ 32 * 2 ^ 32 = sym (add-mul k (suc q) d ∙ ap (λ n. k * d + n) (suc-mul q d)) ∙ times in
    let all : (2 ^ 32 - 1) * 2 ^ 32 + a ≡ k * d + (d - suc r) = omega (arith, parts, split, less, is) in
    let rest : d - suc r < d = omega (arith, less) in
    let quotient : ((2 ^ 32 - 1) * 2 ^ 32 + a) / d ≡ k = ap (λ n. n / d) all ∙ digits_div k rest in
    ap (λ n. n % 2 ^ 32) quotient ∙ (let last : k % 2 ^ 32 ≡ 2 ^ 32 - suc q = omega (arith, sum, more, low, is) in last)

pub sar_word : (a b : ℕ) → a < 2 ^ 32 → b < 32 → (sign_extended 1 (extracted a 0 1) * 2 ^ 32 + a) / 2 ^ b % 2 ^ 32 ≡ word (int_shr (signed a) b)
sar_word a b small count = by_sign (cases_lt a (2 ^ 31))
  where
    by_sign : (a < 2 ^ 31) ⊎ (2 ^ 31 ≤ a) → (sign_extended 1 (extracted a 0 1) * 2 ^ 32 + a) / 2 ^ b % 2 ^ 32 ≡ word (int_shr (signed a) b)
    by_sign (inl low) =
        ap (λ s. (s * 2 ^ 32 + a) / 2 ^ b % 2 ^ 32) (low_sign a low) ∙ (shr_word a b small ∙ sym (ap (λ (z : ℤ). word (int_shr z b)) (low_signed a low)))
    by_sign (inr high) =
        ap (λ s. (s * 2 ^ 32 + a) / 2 ^ b % 2 ^ 32) (high_sign a high small)
        ∙ (ones_shifted a b (2 ^ 32 - suc a) (omega (arith, small)) count ∙ sym (ap (λ (z : ℤ). word (int_shr z b)) (high_signed a high small)))
