-- Bytes of scalars, and remainders.
use Rattle.std.proofs.Common.{ℕ, ◌/◌, ◌%◌, ◌≡◌, refl, inl, inr, List, take}
use native.Mathlib.Nat.{mod-zero, div-zero}
use Rattle.pw_value.specs.declared.value.Byte.{Byte}
use Rattle.pw_value.specs.Values.{IsWidth}
use Rattle.pw_value.specs.Objects.{bytes_from}

-- what divides by nothing leaves all
pub mod_none : (n m : ℕ) → m ≡ 0 → n % m ≡ n
mod_none n m e = rw e (mod-zero n)

pub div_none : (n m : ℕ) → m ≡ 0 → n / m ≡ 0
div_none n m e = rw e (div-zero n)

pub first_of_four : (width offset : ℕ) (bytes : List Byte) → IsWidth width → take width (bytes_from 4 offset bytes) ≡ bytes_from width offset bytes
first_of_four width offset bytes (inl e) = rw e refl
first_of_four width offset bytes (inr (inl e)) = rw e refl
first_of_four width offset bytes (inr (inr e)) = rw e refl
