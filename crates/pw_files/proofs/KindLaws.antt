-- The byte of a kind: what is read is spelled so, and what is spelled so is read again.
use Rattle.std.proofs.Common.{◌≡◌, ℕ, zero, suc, ◌<◌, ◌≤◌, refl, lit<, arith}
use Rattle.std.specs.Prelude.{IsTrue, nat_lt, nat_le, ◌&&◌, Option, Some, None}
use Rattle.std.specs.Cmp.{first_so, second_so}
use Rattle.std.proofs.lemmas.Bool.{ltb-true, leb-true}
use Rattle.pw_value.specs.declared.value.Kind.{Kind}
use Rattle.pw_value.specs.declared.value.Kind.TheVariants.{S8, U8, S16, U16, W32}
use Rattle.pw_fields.specs.Fields.{choice_at, u8_at, u8, checked, FitsU8}
use Rattle.pw_fields.specs.FieldLaws.{Spells}
use Rattle.pw_fields.proofs.FieldLaws.{choice_spells, checked_spells, u8_spells, mapped_spells}
use Rattle.pw_files.specs.Kinds.{scalar_code, kind_code, kind, scalar, scalar_of, kind_of, kind_at, scalar_at}

code_again : (code : ℕ) → code < 6 → kind_code (kind_of code) ≡ code
code_again zero h = refl
code_again (suc zero) h = refl
code_again (suc (suc zero)) h = refl
code_again (suc (suc (suc zero))) h = refl
code_again (suc (suc (suc (suc zero)))) h = refl
code_again (suc (suc (suc (suc (suc zero))))) h = refl
code_again (suc (suc (suc (suc (suc (suc code)))))) h = absurd (omega arith)

byte_again : (code : ℕ) → 1 ≤ code → code ≤ 5 → scalar_code (scalar_of code) ≡ code
byte_again zero low high = absurd (omega arith)
byte_again (suc zero) low high = refl
byte_again (suc (suc zero)) low high = refl
byte_again (suc (suc (suc zero))) low high = refl
byte_again (suc (suc (suc (suc zero)))) low high = refl
byte_again (suc (suc (suc (suc (suc zero))))) low high = refl
byte_again (suc (suc (suc (suc (suc (suc code)))))) low high = absurd (omega arith)

kind_back : (k : Option Kind) → (kind_of (kind_code k) ≡ k) × FitsU8 (kind_code k) × IsTrue (nat_lt (kind_code k) 6)
kind_back None = (refl, lit< tt, refl)
kind_back (Some S8) = (refl, lit< tt, refl)
kind_back (Some U8) = (refl, lit< tt, refl)
kind_back (Some S16) = (refl, lit< tt, refl)
kind_back (Some U16) = (refl, lit< tt, refl)
kind_back (Some W32) = (refl, lit< tt, refl)

scalar_back : (k : Kind) → (scalar_of (scalar_code k) ≡ k) × FitsU8 (scalar_code k) × IsTrue (nat_le 1 (scalar_code k) && nat_le (scalar_code k) 5)
scalar_back S8 = (refl, lit< tt, refl)
scalar_back U8 = (refl, lit< tt, refl)
scalar_back S16 = (refl, lit< tt, refl)
scalar_back U16 = (refl, lit< tt, refl)
scalar_back W32 = (refl, lit< tt, refl)

-- a scalar's kind of its own byte
pub scalar_again : (k : Kind) → scalar_of (scalar_code k) ≡ k
scalar_again k = (scalar_back k).0

pub kind_spells : Spells kind (λ k. Unit {0}) kind_at
unfolding kind_at
kind_spells = mapped_spells u8 (λ b. FitsU8 b × IsTrue (nat_lt b 6)) (λ k. Unit {0}) (choice_at 6) kind_of kind_code (choice_spells 6)
    (λ b fits. (code_again b (ltb-true _ _ fits.1), tt))
    (λ k fits. let p = kind_back k in (p.0, (p.1, p.2)))

pub scalar_spells : Spells scalar (λ k. Unit {0}) scalar_at
unfolding scalar_at
scalar_spells = mapped_spells u8 (λ b. FitsU8 b × IsTrue (nat_le 1 b && nat_le b 5)) (λ k. Unit {0}) (checked (λ b. nat_le 1 b && nat_le b 5) u8_at) scalar_of scalar_code
    (checked_spells u8 FitsU8 u8_at (λ b. nat_le 1 b && nat_le b 5) u8_spells)
    (λ b fits. (byte_again b (leb-true _ _ (first_so (nat_le 1 b) (nat_le b 5) fits.1)) (leb-true _ _ (second_so (nat_le 1 b) (nat_le b 5) fits.1)), tt))
    (λ k fits. let p = scalar_back k in (p.0, (p.1, p.2)))
