-- A module's name is text.
use Rattle.std.proofs.Common.{◌≡◌, refl, ℕ, zero, suc, ◌<◌, ◌&&◌, Bool, true, false, List, [], ◌∷◌, length, get_or, nat_le, arith}
use Rattle.std.specs.List.{list_all}
use Rattle.std.specs.Str.{IsUtf8}
use Rattle.std.proofs.lemmas.Bool.Decides.{nat_tests}
use Rattle.std.proofs.lemmas.Str.{IsUtf8-from_ascii}
use Rattle.pw_store_modules.specs.Limits.{module_name_limit}
use Rattle.pw_store_modules.specs.Modules.{is_module_name, is_name_byte}

both_first : (a b : Bool) → a && b ≡ true → a ≡ true
both_first true b e = refl
both_first false b e = e

both_second : (a b : Bool) → a && b ≡ true → b ≡ true
both_second true b e = e
both_second false b e = cc

low : (byte : ℕ) → is_name_byte byte ≡ true → byte < 128
low byte e = grind (arith, nat_tests, e)

low_at : (bytes : List ℕ) (i : ℕ) → list_all is_name_byte bytes ≡ true → get_or bytes i 0 < 128
low_at [] i e = omega arith
low_at (byte ∷ bytes) zero e = low byte (both_first (is_name_byte byte) (list_all is_name_byte bytes) e)
low_at (byte ∷ bytes) (suc i) e = low_at bytes i (both_second (is_name_byte byte) (list_all is_name_byte bytes) e)

bytes_pass : (name : List ℕ) → is_module_name name ≡ true → list_all is_name_byte name ≡ true
bytes_pass name e =
    both_second (nat_le (length name) module_name_limit) (list_all is_name_byte name) (both_second (nat_le 1 (length name)) (nat_le (length name) module_name_limit && list_all is_name_byte name) e)

pub name_is_text : (name : List ℕ) → is_module_name name ≡ true → IsUtf8 name
name_is_text name e = IsUtf8-from_ascii name (λ i. low_at name i (bytes_pass name e))
