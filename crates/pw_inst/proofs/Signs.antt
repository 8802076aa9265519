-- Signed numbers in their bits, and back.
use Rattle.std.proofs.Common.{ℕ, ℤ, pos, negsuc, ◌≡◌, ◌+◌, ◌-◌, ◌*◌, ◌^◌, ◌<◌, ◌≤◌, inl, inr, refl, sym, subst, ap, ◌∙◌, arith}
use Rattle.std.proofs.lemmas.Int.{ints}
use Rattle.std.proofs.lemmas.Nat.{pow_pos}
use Rattle.std.proofs.lemmas.Bool.{cases_lt}
use Rattle.std.proofs.lemmas.Bool.Decides.{nat_tests}
use Rattle.pw_inst.proofs.FieldLemmas.{twice}
use Rattle.pw_inst.specs.Fields.{bits, twos_complement, signed, low_sign, low_signed, IsSigned}

-- the bits below the half stand for themselves
pub signed-small : (width value : ℕ) → value < 2 ^ (width - 1) → signed width value ≡ pos value
signed-small width value small = grind (arith, nat_tests)

-- the others for a negative number
pub signed-large : (width value : ℕ) → 2 ^ (width - 1) ≤ value → signed width value ≡ negsuc (2 ^ width - 1 - value)
signed-large width value large = grind (arith, nat_tests)

pub signed-twos_complement : (width : ℕ) (number : ℤ) → 1 ≤ width → IsSigned width number → signed width (twos_complement width number) ≡ number
signed-twos_complement width (pos n) wide fits =
    let double : 2 ^ width ≡ 2 * 2 ^ (width - 1) = twice width wide in
    let some : 0 < 2 ^ (width - 1) = pow_pos (width - 1) in
    let small : n < 2 ^ (width - 1) = omega (arith, ints) in
    signed-small width n small
signed-twos_complement width (negsuc n) wide fits =
    let double : 2 ^ width ≡ 2 * 2 ^ (width - 1) = twice width wide in
    let some : 0 < 2 ^ (width - 1) = pow_pos (width - 1) in
    let small : n < 2 ^ (width - 1) = omega (arith, ints) in
    let large : 2 ^ (width - 1) ≤ 2 ^ width - 1 - n = omega arith in
    let back : 2 ^ width - 1 - (2 ^ width - 1 - n) ≡ n = omega arith in
    signed-large width (2 ^ width - 1 - n) large ∙ ap negsuc back

pub twos_complement-fits : (width : ℕ) (number : ℤ) → 1 ≤ width → IsSigned width number → twos_complement width number < 2 ^ width
twos_complement-fits width (pos n) wide fits =
    let double : 2 ^ width ≡ 2 * 2 ^ (width - 1) = twice width wide in
    let some : 0 < 2 ^ (width - 1) = pow_pos (width - 1) in
    omega (arith, ints)
twos_complement-fits width (negsuc n) wide fits =
    let double : 2 ^ width ≡ 2 * 2 ^ (width - 1) = twice width wide in
    let some : 0 < 2 ^ (width - 1) = pow_pos (width - 1) in
    omega (arith, ints)

pub record IsSignOf (width value : ℕ) (number : ℤ) : Type 0 where
  pub fits : IsSigned width number
  pub back : twos_complement width number ≡ value

pub signed-is : (width value : ℕ) → 1 ≤ width → value < 2 ^ width → IsSignOf width value (signed width value)
signed-is width value wide below =
    let double : 2 ^ width ≡ 2 * 2 ^ (width - 1) = twice width wide in
    let some : 0 < 2 ^ (width - 1) = pow_pos (width - 1) in
    let P : ℤ → Type 0 = λ z. IsSignOf width value z in
    elim (cases_lt value (2 ^ (width - 1))) [
      | inl small ↦ subst P (sym (signed-small width value small)) (record { fits = (omega (arith, ints), omega (arith, ints)); back = refl })
      | inr large ↦ subst P (sym (signed-large width value large)) (record { fits = (omega (arith, ints), omega (arith, ints)); back = omega arith })
    ]

-- ---- low sign

rotated_14 : (value : ℕ) → value < 2 ^ 14
    → bits 0 1 (bits 0 13 value * 2 + bits 13 1 value) * 2 ^ 13 + bits 1 13 (bits 0 13 value * 2 + bits 13 1 value) ≡ value
rotated_14 value fits = omega arith

rotated_11 : (value : ℕ) → value < 2 ^ 11
    → bits 0 1 (bits 0 10 value * 2 + bits 10 1 value) * 2 ^ 10 + bits 1 10 (bits 0 10 value * 2 + bits 10 1 value) ≡ value
rotated_11 value fits = omega arith

back_14 : (value : ℕ) → value < 2 ^ 14
    → bits 0 13 (bits 0 1 value * 2 ^ 13 + bits 1 13 value) * 2 + bits 13 1 (bits 0 1 value * 2 ^ 13 + bits 1 13 value) ≡ value
back_14 value fits = omega arith

back_11 : (value : ℕ) → value < 2 ^ 11
    → bits 0 10 (bits 0 1 value * 2 ^ 10 + bits 1 10 value) * 2 + bits 10 1 (bits 0 1 value * 2 ^ 10 + bits 1 10 value) ≡ value
back_11 value fits = omega arith

pub low_signed-low_sign_14 : (number : ℤ) → IsSigned 14 number → low_signed 14 (low_sign 14 number) ≡ number
low_signed-low_sign_14 number fits =
    ap (signed 14) (rotated_14 (twos_complement 14 number) (twos_complement-fits 14 number (omega arith) fits))
    ∙ signed-twos_complement 14 number (omega arith) fits

pub low_signed-low_sign_11 : (number : ℤ) → IsSigned 11 number → low_signed 11 (low_sign 11 number) ≡ number
low_signed-low_sign_11 number fits =
    ap (signed 11) (rotated_11 (twos_complement 11 number) (twos_complement-fits 11 number (omega arith) fits))
    ∙ signed-twos_complement 11 number (omega arith) fits

low_fits_14 : (value : ℕ) → value < 2 ^ 14 → bits 0 13 value * 2 + bits 13 1 value < 2 ^ 14
low_fits_14 value fits = omega arith

low_fits_11 : (value : ℕ) → value < 2 ^ 11 → bits 0 10 value * 2 + bits 10 1 value < 2 ^ 11
low_fits_11 value fits = omega arith

pub low_sign-fits_14 : (number : ℤ) → IsSigned 14 number → low_sign 14 number < 2 ^ 14
low_sign-fits_14 number fits = low_fits_14 (twos_complement 14 number) (twos_complement-fits 14 number (omega arith) fits)

pub low_sign-fits_11 : (number : ℤ) → IsSigned 11 number → low_sign 11 number < 2 ^ 11
low_sign-fits_11 number fits = low_fits_11 (twos_complement 11 number) (twos_complement-fits 11 number (omega arith) fits)

pub record IsLowSignOf (width value : ℕ) (number : ℤ) : Type 0 where
  pub fits : IsSigned width number
  pub back : low_sign width number ≡ value

pub low_signed-is_14 : (value : ℕ) → value < 2 ^ 14 → IsLowSignOf 14 value (low_signed 14 value)
low_signed-is_14 value below =
    let turned = bits 0 1 value * 2 ^ 13 + bits 1 13 value in
    let found : IsSignOf 14 turned (signed 14 turned) = signed-is 14 turned (omega arith) (omega arith) in
    record { fits = found.fits; back = ap (λ u. bits 0 13 u * 2 + bits 13 1 u) found.back ∙ back_14 value below }

pub low_signed-is_11 : (value : ℕ) → value < 2 ^ 11 → IsLowSignOf 11 value (low_signed 11 value)
low_signed-is_11 value below =
    let turned = bits 0 1 value * 2 ^ 10 + bits 1 10 value in
    let found : IsSignOf 11 turned (signed 11 turned) = signed-is 11 turned (omega arith) (omega arith) in
    record { fits = found.fits; back = ap (λ u. bits 0 10 u * 2 + bits 10 1 u) found.back ∙ back_11 value below }
