-- The product of ints, where an int can hold it, is the product modulo 2^32.
use Rattle.std.proofs.Common.{◌≡◌, ℕ, ◌<◌, ◌≤◌, ◌*◌, ◌%◌, ◌^◌, Bool, true, false, cond, arith, refl, sym, ap, ◌∙◌}
use Rattle.std.specs.Prelude.{ℤ, pos, negsuc, ◌*ℤ◌, nat_lt, Result, Ok, Err}
use Rattle.std.specs.Int.{w32, cast_signed, cast_unsigned}
use Rattle.std.specs.Int.RustNames.{FitsSigned}
use Rattle.std.proofs.lemmas.Int.{wrapping_mul-bits, int_wrap_fits, of_z-to_z}
use Rattle.std.proofs.lemmas.Bool.{leb-true}
use Rattle.pw_value.specs.declared.words.WordFault.{WordFault}
use Rattle.pw_value.specs.declared.words.WordFault.TheVariants.{Overflow}
use Rattle.pw_value.specs.Words.{signed, word, int_max, fits, exact, signed_product, unsigned_product}

fits_signed : (z : ℤ) → fits z ≡ true → FitsSigned w32 z
fits_signed (pos n) e = record { sfits = let h : n ≤ int_max = leb-true n int_max e in omega arith }
fits_signed (negsuc n) e = record { sfits = let h : n ≤ int_max = leb-true n int_max e in omega arith }

product_by : (a b : ℕ) → a < 2 ^ 32 → b < 2 ^ 32 → fits (signed a *ℤ signed b) ≡ true → word (signed a *ℤ signed b) ≡ unsigned_product a b
product_by a b small little e =
    sym (ap (cast_unsigned w32) (wrapping_mul-bits w32 a b small little ∙ int_wrap_fits w32 (signed a *ℤ signed b) (fits_signed (signed a *ℤ signed b) e)))
    ∙ of_z-to_z w32 (a * b % 2 ^ 32) (omega arith)

answered : (t : Bool) (n m s : ℕ) → (t ≡ true → n ≡ m) → cond t (Ok n) (Err Overflow) ≡ Ok s → s ≡ m
answered true n m s is e = let same : n ≡ s = cc in sym same ∙ is refl
answered false n m s is e = absurd cc

pub product_is : (a b s : ℕ) → a < 2 ^ 32 → b < 2 ^ 32 → signed_product a b ≡ Ok s → s ≡ unsigned_product a b
product_is a b s small little e = answered (fits (signed a *ℤ signed b)) (word (signed a *ℤ signed b)) (unsigned_product a b) s (product_by a b small little) e
