-- Powers of two and two's complements, as the readers of fields use them.
use Rattle.std.proofs.Common.{ℕ, ℤ, suc, zero, pos, negsuc, ◌≡◌, ◌+◌, ◌-◌, ◌*◌, ◌/◌, ◌%◌, ◌^◌, ◌<◌, ◌≤◌, ◌-ℤ◌, ◌≤ℤ◌, to_z, of_z, w32, ap, ◌∙◌, arith, nat_lt, if◌then◌else◌}
use Rattle.std.specs.Int.RustNames.{unsigned_abs}
use Rattle.std.proofs.lemmas.Nat.{pow-add, pow_pos}
use Rattle.std.proofs.Math.Nat.{mul-le-mul_right, mod-eq_of_lt, pow-succ', pow-le-pow_right}
use Rattle.std.proofs.lemmas.Int.{ints}
use Rattle.std.proofs.lemmas.Bool.Decides.{nat_tests}

-- a power of two is twice the one below it
pub twice : (width : ℕ) → 1 ≤ width → 2 ^ width ≡ 2 * 2 ^ (width - 1)
twice width wide =
    let next : width ≡ suc (width - 1) = omega arith in
    let powers : 2 ^ width ≡ 2 ^ suc (width - 1) = ap (λ n. 2 ^ n) next in
    powers ∙ pow-succ' 2 (width - 1)

pub half_is_small : (width : ℕ) → width < 32 → 2 ^ (width - 1) ≤ 2 ^ 30
half_is_small width narrow =
    let below : width - 1 ≤ 30 = omega arith in
    let two : 0 < 2 = omega arith in
    pow-le-pow_right two below

-- a number from the half on is negative
pub extended : (value half whole : ℕ) → half ≤ value → value < whole → whole ≡ 2 * half → half ≤ 2 ^ 30
    → to_z w32 (of_z w32 (to_z w32 (value - half) -ℤ to_z w32 half)) ≡ (if nat_lt value half then pos value else negsuc (whole - 1 - value))
extended value half whole above below double small = grind (arith, ints, nat_tests)

-- a bit before a number that is small enough
bit-times : (b half : ℕ) → b < 2 → half ≤ 2 ^ 30 → b * half < 2 ^ 32
bit-times zero half one small = omega arith
bit-times (suc zero) half one small = omega arith
bit-times (suc (suc n)) half one small = absurd (omega arith)

-- the rightmost bit moved to the left end
pub rotated : (value half : ℕ) → value < 2 * half → half ≤ 2 ^ 30
    → value % 2 * half % 2 ^ 32 + value / 2 ≡ value / 2 ^ 0 % 2 ^ 1 * half + value / 2 ^ 1 % half
rotated value half fits small =
    let below : value / 2 < half = omega arith in
    let rest : value / 2 % half ≡ value / 2 = mod-eq_of_lt below in
    let one : value % 2 < 2 = omega arith in
    let sign : value % 2 * half % 2 ^ 32 ≡ value % 2 * half = mod-eq_of_lt (bit-times (value % 2) half one small) in
    let whole : value / 2 ^ 0 ≡ value = omega arith in
    rw (sign, whole, rest)

pub whole_is_small : (width : ℕ) → width < 31 → 2 ^ width ≤ 2 ^ 30
whole_is_small width narrow =
    let below : width ≤ 30 = omega arith in
    let two : 0 < 2 = omega arith in
    pow-le-pow_right two below

-- a value of some bits, moved to the left within the word, is still a word
pub shifted_fits : (value width shift : ℕ) → value < 2 ^ width → width + shift ≤ 32 → value * 2 ^ shift < 2 ^ 32
shifted_fits value width shift fits room =
    let two : 0 < 2 = omega arith in
    let all : 2 ^ (width + shift) ≤ 2 ^ 32 = pow-le-pow_right two room in
    let some : 2 ^ (width + shift) ≡ 2 ^ width * 2 ^ shift = pow-add 2 width shift in
    let one : 0 < 2 ^ shift = pow_pos shift in
    let product : suc value * 2 ^ shift ≤ 2 ^ width * 2 ^ shift = mul-le-mul_right (2 ^ shift) fits in
    omega arith

-- the magnitude of a number that has a two's complement of twice `half` values
pub magnitude_fits : (number : ℤ) (half : ℕ) → 0 < half → negsuc (half - 1) ≤ℤ number → number ≤ℤ pos (half - 1) → unsigned_abs number ≤ half
magnitude_fits (pos n) half some least greatest = omega (arith, ints)
magnitude_fits (negsuc n) half some least greatest = omega (arith, ints)
