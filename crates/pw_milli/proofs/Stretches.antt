-- The stretches of the unsigned division from branch to branch: what each does to the registers, by which
-- way its branch goes.
use Rattle.std.proofs.Common.{ℕ, ◌+◌, ◌%◌, ◌^◌, ◌≡◌, Bool, true, false, not, Some, refl, ap, ◌∙◌}
use Rattle.std.specs.Prelude.{◌==◌, nat_lt, nat_le, bit_or, if◌then◌else◌}
use Rattle.pw_value.specs.Words.{unsigned_difference}
use Rattle.pw_inst.specs.Computing.{extracted, deposited}
use Rattle.pw_milli.proofs.Small.{at, small_run, run_on}
use Rattle.pw_milli.proofs.Codes.{dividing}

-- ---- stretches of the code up to the next branch: by which way the branch goes

-- no divisor
pub zero_divisor : (f : ℕ → ℕ) → (f 25 == 0) ≡ true → (g : ℕ → ℕ) × (small_run dividing 2 (at 0 f) ≡ Some (at 33 g)) × (g 21 ≡ f 21) × (g 22 ≡ f 22) × (g 25 ≡ f 25) × (g 26 ≡ f 26) × (g 28 ≡ f 28) × (g 29 ≡ 0)
zero_divisor f e = (_, run_on dividing 1 1 (at 0 f) _ (ap (λ (c : Bool). Some (record { registers = f; front = 1; back = if c then 33 else 2; nullify = false })) e) ∙ refl, refl, refl, refl, refl, refl, refl)

-- a divisor
pub some_divisor : (f : ℕ → ℕ) → (f 25 == 0) ≡ false → (g : ℕ → ℕ) × (small_run dividing 2 (at 0 f) ≡ Some (at 2 g)) × (g 21 ≡ f 21) × (g 22 ≡ f 22) × (g 25 ≡ f 25) × (g 26 ≡ f 26) × (g 28 ≡ f 28) × (g 29 ≡ 0)
some_divisor f e = (_, run_on dividing 1 1 (at 0 f) _ (ap (λ (c : Bool). Some (record { registers = f; front = 1; back = if c then 33 else 2; nullify = false })) e) ∙ refl, refl, refl, refl, refl, refl, refl)

-- a sixteenth of the dividend
pub sixteenth : (f : ℕ → ℕ) → (g : ℕ → ℕ) × (small_run dividing 1 (at 2 f) ≡ Some (at 3 g)) × (g 21 ≡ f 21) × (g 22 ≡ f 22) × (g 25 ≡ f 25) × (g 26 ≡ f 26) × (g 28 ≡ f 28) × (g 29 ≡ f 29) × (g 1 ≡ extracted (f 26) 27 28)
sixteenth f = (_, refl, refl, refl, refl, refl, refl, refl, refl)

-- a quotient of one digit
pub short_quotient : (f : ℕ → ℕ) → nat_lt (f 1) (f 25) ≡ true → (g : ℕ → ℕ) × (small_run dividing 2 (at 3 f) ≡ Some (at 8 g)) × (g 21 ≡ f 21) × (g 22 ≡ bit_or (f 25) 0) × (g 25 ≡ f 25) × (g 26 ≡ f 26) × (g 28 ≡ f 28) × (g 29 ≡ f 29)
short_quotient f e = (_, run_on dividing 1 1 (at 3 f) _ (ap (λ (c : Bool). Some (record { registers = f; front = 4; back = if c then 8 else 5; nullify = false })) e) ∙ refl, refl, refl, refl, refl, refl, refl)

-- a longer quotient
pub long_quotient : (f : ℕ → ℕ) → nat_lt (f 1) (f 25) ≡ false → (g : ℕ → ℕ) × (small_run dividing 2 (at 3 f) ≡ Some (at 5 g)) × (g 21 ≡ f 21) × (g 22 ≡ bit_or (f 25) 0) × (g 25 ≡ f 25) × (g 26 ≡ f 26) × (g 28 ≡ f 28) × (g 29 ≡ f 29) × (g 1 ≡ f 1)
long_quotient f e = (_, run_on dividing 1 1 (at 3 f) _ (ap (λ (c : Bool). Some (record { registers = f; front = 4; back = if c then 8 else 5; nullify = false })) e) ∙ refl, refl, refl, refl, refl, refl, refl, refl)

-- a 256th of the dividend
pub lesser_part : (f : ℕ → ℕ) → (g : ℕ → ℕ) × (small_run dividing 1 (at 5 f) ≡ Some (at 6 g)) × (g 21 ≡ f 21) × (g 22 ≡ f 22) × (g 25 ≡ f 25) × (g 26 ≡ f 26) × (g 28 ≡ f 28) × (g 29 ≡ f 29) × (g 1 ≡ extracted (f 26) 23 24)
lesser_part f = (_, refl, refl, refl, refl, refl, refl, refl, refl)

-- the divisor goes on up
pub shift_on : (f : ℕ → ℕ) → nat_le (f 22) (f 1) ≡ true → (g : ℕ → ℕ) × (small_run dividing 2 (at 6 f) ≡ Some (at 6 g)) × (g 21 ≡ f 21) × (g 22 ≡ deposited (f 22) 27 28) × (g 25 ≡ f 25) × (g 26 ≡ f 26) × (g 28 ≡ f 28) × (g 29 ≡ f 29) × (g 1 ≡ f 1)
shift_on f e = (_, run_on dividing 1 1 (at 6 f) _ (ap (λ (c : Bool). Some (record { registers = f; front = 7; back = if c then 6 else 8; nullify = false })) e) ∙ refl, refl, refl, refl, refl, refl, refl, refl)

-- the divisor goes up for the last time
pub shift_last : (f : ℕ → ℕ) → nat_le (f 22) (f 1) ≡ false → (g : ℕ → ℕ) × (small_run dividing 2 (at 6 f) ≡ Some (at 8 g)) × (g 21 ≡ f 21) × (g 22 ≡ deposited (f 22) 27 28) × (g 25 ≡ f 25) × (g 26 ≡ f 26) × (g 28 ≡ f 28) × (g 29 ≡ f 29)
shift_last f e = (_, run_on dividing 1 1 (at 6 f) _ (ap (λ (c : Bool). Some (record { registers = f; front = 7; back = if c then 6 else 8; nullify = false })) e) ∙ refl, refl, refl, refl, refl, refl, refl)

-- half the dividend
pub halved : (f : ℕ → ℕ) → (g : ℕ → ℕ) × (small_run dividing 1 (at 8 f) ≡ Some (at 9 g)) × (g 21 ≡ f 21) × (g 22 ≡ f 22) × (g 25 ≡ f 25) × (g 26 ≡ f 26) × (g 28 ≡ f 28) × (g 29 ≡ f 29) × (g 1 ≡ extracted (f 26) 30 31)
halved f = (_, refl, refl, refl, refl, refl, refl, refl, refl)

-- the first digit has one bit
pub first_bit : (f : ℕ → ℕ) → nat_lt (f 1) (f 22) ≡ true → (g : ℕ → ℕ) × (small_run dividing 2 (at 9 f) ≡ Some (at 27 g)) × (g 21 ≡ (f 22 + f 22) % 2 ^ 32) × (g 22 ≡ f 22) × (g 25 ≡ f 25) × (g 26 ≡ f 26) × (g 28 ≡ f 28) × (g 29 ≡ f 29)
first_bit f e = (_, run_on dividing 1 1 (at 9 f) _ (ap (λ (c : Bool). Some (record { registers = f; front = 10; back = if c then 27 else 11; nullify = false })) e) ∙ refl, refl, refl, refl, refl, refl, refl)

-- or more
pub second_on : (f : ℕ → ℕ) → nat_lt (f 1) (f 22) ≡ false → (g : ℕ → ℕ) × (small_run dividing 2 (at 9 f) ≡ Some (at 11 g)) × (g 21 ≡ (f 22 + f 22) % 2 ^ 32) × (g 22 ≡ f 22) × (g 25 ≡ f 25) × (g 26 ≡ f 26) × (g 28 ≡ f 28) × (g 29 ≡ f 29) × (g 1 ≡ f 1)
second_on f e = (_, run_on dividing 1 1 (at 9 f) _ (ap (λ (c : Bool). Some (record { registers = f; front = 10; back = if c then 27 else 11; nullify = false })) e) ∙ refl, refl, refl, refl, refl, refl, refl, refl)

-- the first digit has two bits
pub second_bit : (f : ℕ → ℕ) → nat_lt (f 1) (f 21) ≡ true → (g : ℕ → ℕ) × (small_run dividing 2 (at 11 f) ≡ Some (at 23 g)) × (g 21 ≡ f 21) × (g 22 ≡ (f 21 + f 21) % 2 ^ 32) × (g 25 ≡ f 25) × (g 26 ≡ f 26) × (g 28 ≡ f 28) × (g 29 ≡ f 29)
second_bit f e = (_, run_on dividing 1 1 (at 11 f) _ (ap (λ (c : Bool). Some (record { registers = f; front = 12; back = if c then 23 else 13; nullify = false })) e) ∙ refl, refl, refl, refl, refl, refl, refl)

-- or more
pub third_on : (f : ℕ → ℕ) → nat_lt (f 1) (f 21) ≡ false → (g : ℕ → ℕ) × (small_run dividing 2 (at 11 f) ≡ Some (at 13 g)) × (g 21 ≡ f 21) × (g 22 ≡ (f 21 + f 21) % 2 ^ 32) × (g 25 ≡ f 25) × (g 26 ≡ f 26) × (g 28 ≡ f 28) × (g 29 ≡ f 29) × (g 1 ≡ f 1)
third_on f e = (_, run_on dividing 1 1 (at 11 f) _ (ap (λ (c : Bool). Some (record { registers = f; front = 12; back = if c then 23 else 13; nullify = false })) e) ∙ refl, refl, refl, refl, refl, refl, refl, refl)

-- the first digit has three bits
pub third_bit : (f : ℕ → ℕ) → nat_lt (f 1) (f 22) ≡ true → (g : ℕ → ℕ) × (small_run dividing 2 (at 13 f) ≡ Some (at 19 g)) × (g 21 ≡ (f 22 + f 22) % 2 ^ 32) × (g 22 ≡ f 22) × (g 25 ≡ f 25) × (g 26 ≡ f 26) × (g 28 ≡ f 28) × (g 29 ≡ f 29)
third_bit f e = (_, run_on dividing 1 1 (at 13 f) _ (ap (λ (c : Bool). Some (record { registers = f; front = 14; back = if c then 19 else 15; nullify = false })) e) ∙ refl, refl, refl, refl, refl, refl, refl)

-- or four
pub fourth_on : (f : ℕ → ℕ) → nat_lt (f 1) (f 22) ≡ false → (g : ℕ → ℕ) × (small_run dividing 2 (at 13 f) ≡ Some (at 15 g)) × (g 21 ≡ (f 22 + f 22) % 2 ^ 32) × (g 22 ≡ f 22) × (g 25 ≡ f 25) × (g 26 ≡ f 26) × (g 28 ≡ f 28) × (g 29 ≡ f 29)
fourth_on f e = (_, run_on dividing 1 1 (at 13 f) _ (ap (λ (c : Bool). Some (record { registers = f; front = 14; back = if c then 19 else 15; nullify = false })) e) ∙ refl, refl, refl, refl, refl, refl, refl)

-- the bit is 0
pub eights_clear : (f : ℕ → ℕ) → nat_lt (f 26) (f 21) ≡ true → (g : ℕ → ℕ) × (small_run dividing 2 (at 15 f) ≡ Some (at 19 g)) × (g 21 ≡ f 21) × (g 22 ≡ f 22) × (g 25 ≡ f 25) × (g 26 ≡ f 26) × (g 28 ≡ f 28) × (g 29 ≡ deposited (f 29) 27 28)
eights_clear f e = (_, run_on dividing 1 1 (at 15 f) _ (ap (λ (c : Bool). Some (record { registers = f; front = 16; back = if c then 19 else 17; nullify = false })) e) ∙ refl, refl, refl, refl, refl, refl, refl)

-- the bit is 1
pub eights_set : (f : ℕ → ℕ) → nat_lt (f 26) (f 21) ≡ false → (g : ℕ → ℕ) × (small_run dividing 4 (at 15 f) ≡ Some (at 19 g)) × (g 21 ≡ f 21) × (g 22 ≡ f 22) × (g 25 ≡ f 25) × (g 26 ≡ unsigned_difference (f 26) (f 21)) × (g 28 ≡ f 28) × (g 29 ≡ (deposited (f 29) 27 28 + 8) % 2 ^ 32)
eights_set f e = (_, run_on dividing 1 3 (at 15 f) _ (ap (λ (c : Bool). Some (record { registers = f; front = 16; back = if c then 19 else 17; nullify = false })) e) ∙ refl, refl, refl, refl, refl, refl, refl)

-- the bit is 0
pub fours_clear : (f : ℕ → ℕ) → nat_lt (f 26) (f 22) ≡ true → (g : ℕ → ℕ) × (small_run dividing 2 (at 19 f) ≡ Some (at 23 g)) × (g 21 ≡ extracted (f 22) 30 31) × (g 22 ≡ f 22) × (g 25 ≡ f 25) × (g 26 ≡ f 26) × (g 28 ≡ f 28) × (g 29 ≡ f 29)
fours_clear f e = (_, run_on dividing 1 1 (at 19 f) _ (ap (λ (c : Bool). Some (record { registers = f; front = 20; back = if c then 23 else 21; nullify = false })) e) ∙ refl, refl, refl, refl, refl, refl, refl)

-- the bit is 1
pub fours_set : (f : ℕ → ℕ) → nat_lt (f 26) (f 22) ≡ false → (g : ℕ → ℕ) × (small_run dividing 4 (at 19 f) ≡ Some (at 23 g)) × (g 21 ≡ extracted (f 22) 30 31) × (g 22 ≡ f 22) × (g 25 ≡ f 25) × (g 26 ≡ unsigned_difference (f 26) (f 22)) × (g 28 ≡ f 28) × (g 29 ≡ (f 29 + 4) % 2 ^ 32)
fours_set f e = (_, run_on dividing 1 3 (at 19 f) _ (ap (λ (c : Bool). Some (record { registers = f; front = 20; back = if c then 23 else 21; nullify = false })) e) ∙ refl, refl, refl, refl, refl, refl, refl)

-- the bit is 0
pub twos_clear : (f : ℕ → ℕ) → nat_lt (f 26) (f 21) ≡ true → (g : ℕ → ℕ) × (small_run dividing 2 (at 23 f) ≡ Some (at 27 g)) × (g 21 ≡ f 21) × (g 22 ≡ extracted (f 21) 30 31) × (g 25 ≡ f 25) × (g 26 ≡ f 26) × (g 28 ≡ f 28) × (g 29 ≡ f 29)
twos_clear f e = (_, run_on dividing 1 1 (at 23 f) _ (ap (λ (c : Bool). Some (record { registers = f; front = 24; back = if c then 27 else 25; nullify = false })) e) ∙ refl, refl, refl, refl, refl, refl, refl)

-- the bit is 1
pub twos_set : (f : ℕ → ℕ) → nat_lt (f 26) (f 21) ≡ false → (g : ℕ → ℕ) × (small_run dividing 4 (at 23 f) ≡ Some (at 27 g)) × (g 21 ≡ f 21) × (g 22 ≡ extracted (f 21) 30 31) × (g 25 ≡ f 25) × (g 26 ≡ unsigned_difference (f 26) (f 21)) × (g 28 ≡ f 28) × (g 29 ≡ (f 29 + 2) % 2 ^ 32)
twos_set f e = (_, run_on dividing 1 3 (at 23 f) _ (ap (λ (c : Bool). Some (record { registers = f; front = 24; back = if c then 27 else 25; nullify = false })) e) ∙ refl, refl, refl, refl, refl, refl, refl)

-- the bit is 0
pub ones_clear : (f : ℕ → ℕ) → nat_lt (f 26) (f 22) ≡ true → (g : ℕ → ℕ) × (small_run dividing 2 (at 27 f) ≡ Some (at 31 g)) × (g 21 ≡ extracted (f 22) 30 31) × (g 22 ≡ f 22) × (g 25 ≡ f 25) × (g 26 ≡ f 26) × (g 28 ≡ f 28) × (g 29 ≡ f 29)
ones_clear f e = (_, run_on dividing 1 1 (at 27 f) _ (ap (λ (c : Bool). Some (record { registers = f; front = 28; back = if c then 31 else 29; nullify = false })) e) ∙ refl, refl, refl, refl, refl, refl, refl)

-- the bit is 1
pub ones_set : (f : ℕ → ℕ) → nat_lt (f 26) (f 22) ≡ false → (g : ℕ → ℕ) × (small_run dividing 4 (at 27 f) ≡ Some (at 31 g)) × (g 21 ≡ extracted (f 22) 30 31) × (g 22 ≡ f 22) × (g 25 ≡ f 25) × (g 26 ≡ unsigned_difference (f 26) (f 22)) × (g 28 ≡ f 28) × (g 29 ≡ (f 29 + 1) % 2 ^ 32)
ones_set f e = (_, run_on dividing 1 3 (at 27 f) _ (ap (λ (c : Bool). Some (record { registers = f; front = 28; back = if c then 31 else 29; nullify = false })) e) ∙ refl, refl, refl, refl, refl, refl, refl)

-- the divisor is down again
pub digit_last : (f : ℕ → ℕ) → (f 22 == f 25) ≡ true → (g : ℕ → ℕ) × (small_run dividing 2 (at 31 f) ≡ Some (at 33 g)) × (g 21 ≡ f 21) × (g 22 ≡ extracted (f 21) 30 31) × (g 25 ≡ f 25) × (g 26 ≡ f 26) × (g 28 ≡ f 28) × (g 29 ≡ f 29)
digit_last f e = (_, run_on dividing 1 1 (at 31 f) _ (ap (λ (c : Bool). Some (record { registers = f; front = 32; back = if not c then 15 else 33; nullify = false })) e) ∙ refl, refl, refl, refl, refl, refl, refl)

-- another digit
pub digit_on : (f : ℕ → ℕ) → (f 22 == f 25) ≡ false → (g : ℕ → ℕ) × (small_run dividing 2 (at 31 f) ≡ Some (at 15 g)) × (g 21 ≡ f 21) × (g 22 ≡ extracted (f 21) 30 31) × (g 25 ≡ f 25) × (g 26 ≡ f 26) × (g 28 ≡ f 28) × (g 29 ≡ f 29)
digit_on f e = (_, run_on dividing 1 1 (at 31 f) _ (ap (λ (c : Bool). Some (record { registers = f; front = 32; back = if not c then 15 else 33; nullify = false })) e) ∙ refl, refl, refl, refl, refl, refl, refl)
