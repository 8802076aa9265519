-- What is set is read again, and is the word of the instruction with the other number.
use Rattle.std.proofs.Common.{ℕ, ℤ, Bool, true, false, ◌≡◌, ◌+◌, ◌*◌, ◌%◌, ◌^◌, ◌<◌, ◌∙◌, ap, arith}
use Rattle.pw_inst.specs.Fields.{bits, field, at, bit, twos_complement, low_sign, low_signed, IsSigned}
use Rattle.pw_inst.specs.InstructionTable.{memory_word, branch_word, long_immediate_word, long_immediate}
use Rattle.pw_inst.specs.Setting.{with_long_immediate, with_displacement, with_branch, branch_bits}
use Rattle.pw_inst.proofs.Signs.{twos_complement-fits, low_signed-low_sign_14, low_sign-fits_14}

-- ---- LDIL

pub long_held : (word im : ℕ) → long_immediate (with_long_immediate word im) ≡ im % 2 ^ 21
unfolding long_immediate with_long_immediate
long_held word im = omega arith

pub long_others : (word im : ℕ) → word < 2 ^ 32 → field 0 11 (with_long_immediate word im) ≡ field 0 11 word
unfolding with_long_immediate
long_others word im fits = omega arith

pub long_encoding : (im t new : ℕ) → t < 32 → with_long_immediate (long_immediate_word im t) new ≡ long_immediate_word new t
unfolding with_long_immediate
long_encoding im t new target =
    let front : field 0 11 (long_immediate_word im t) ≡ 0x08 * 2 ^ 5 + t = omega arith in
    rw front (omega arith)

-- ---- loads, stores and LDO

pub displacement_held : (word : ℕ) (im : ℤ) → IsSigned 14 im → low_signed 14 (field 18 14 (with_displacement word im)) ≡ im
unfolding with_displacement
displacement_held word im fits =
    let v = low_sign 14 im in
    let below : v < 2 ^ 14 = low_sign-fits_14 im fits in
    let held : field 18 14 (at 0 18 (field 0 18 word) + at 18 14 v) ≡ v = omega arith in
    ap (low_signed 14) held ∙ low_signed-low_sign_14 im fits

pub displacement_others : (word : ℕ) (im : ℤ) → word < 2 ^ 32 → IsSigned 14 im → field 0 18 (with_displacement word im) ≡ field 0 18 word
unfolding with_displacement
displacement_others word im small fits =
    let v = low_sign 14 im in
    let below : v < 2 ^ 14 = low_sign-fits_14 im fits in
    omega arith

pub displacement_encoding : (op b r : ℕ) (im new : ℤ) → op < 64 → b < 32 → r < 32 → IsSigned 14 im → with_displacement (memory_word op b r im) new ≡ memory_word op b r new
unfolding with_displacement
displacement_encoding op b r im new small base other fits =
    let v = low_sign 14 im in
    let below : v < 2 ^ 14 = low_sign-fits_14 im fits in
    let front : at 0 18 (field 0 18 (at 0 6 op + at 6 5 b + at 11 5 r + at 18 14 v)) ≡ at 0 6 op + at 6 5 b + at 11 5 r = omega arith in
    ap (λ k. k + at 18 14 (low_sign 14 new)) front

-- ---- BL

pub branch_held : (word q : ℕ) → branch_bits (with_branch word q) ≡ q % 2 ^ 17
unfolding branch_bits with_branch
branch_held word q = omega arith

pub branch_begin : (word q : ℕ) → word < 2 ^ 32 → field 0 11 (with_branch word q) ≡ field 0 11 word
unfolding with_branch
branch_begin word q fits = omega arith

pub branch_middle : (word q : ℕ) → field 16 3 (with_branch word q) ≡ field 16 3 word
unfolding with_branch
branch_middle word q = omega arith

pub branch_nullifies : (word q : ℕ) → field 30 1 (with_branch word q) ≡ field 30 1 word
unfolding with_branch
branch_nullifies word q = omega arith

-- the bits that stay of BL's word
branch_parts : (w t n : ℕ) → w < 2 ^ 17 → t < 32 → n < 2
    → (field 0 11 (at 0 6 0x3A + at 6 5 t + at 11 5 (bits 11 5 w) + at 19 10 (bits 0 10 w) + at 29 1 (bits 10 1 w) + at 30 1 n + at 31 1 (bits 16 1 w)) ≡ 0x3A * 2 ^ 5 + t)
    × (field 16 3 (at 0 6 0x3A + at 6 5 t + at 11 5 (bits 11 5 w) + at 19 10 (bits 0 10 w) + at 29 1 (bits 10 1 w) + at 30 1 n + at 31 1 (bits 16 1 w)) ≡ 0)
    × (field 30 1 (at 0 6 0x3A + at 6 5 t + at 11 5 (bits 11 5 w) + at 19 10 (bits 0 10 w) + at 29 1 (bits 10 1 w) + at 30 1 n + at 31 1 (bits 16 1 w)) ≡ n)
branch_parts w t n fits target one = (omega arith, omega arith, omega arith)

bit_small : (n : Bool) → bit n < 2
bit_small true = omega arith
bit_small false = omega arith

sums : (t n a b c d : ℕ) → t < 32 → at 0 11 (0x3A * 2 ^ 5 + t) + at 16 3 0 + at 30 1 n + (at 11 5 a + at 19 10 b + at 29 1 c + at 31 1 d) ≡ at 0 6 0x3A + at 6 5 t + at 11 5 a + at 19 10 b + at 29 1 c + at 30 1 n + at 31 1 d
sums t n a b c d target = omega arith

pub branch_encoding : (disp new : ℤ) (t : ℕ) (n : Bool) → IsSigned 17 disp → t < 32 → with_branch (branch_word disp t n) (twos_complement 17 new) ≡ branch_word new t n
unfolding with_branch
branch_encoding disp new t n fits target =
    let w = twos_complement 17 disp in
    let v = twos_complement 17 new in
    let parts = branch_parts w t (bit n) (twos_complement-fits 17 disp (omega arith) fits) target (bit_small n) in
    rw (parts.0, parts.1, parts.2) (sums t (bit n) (bits 11 5 v) (bits 0 10 v) (bits 10 1 v) (bits 16 1 v) target)
