-- Which words are texts.
use Rattle.std.proofs.Common.{◌≡◌, ℕ, zero, suc, ◌<◌, ◌&&◌, Bool, true, false, cond, List, [], ◌∷◌, Some, None, refl, sym, arith, true≢false}
use Rattle.std.proofs.lemmas.Bool.{false_from_ne_true}
use Rattle.std.proofs.lemmas.Bool.Decides.{nat_tests}
use Rattle.std.specs.Char.{is_ascii_digit}
use Rattle.std.specs.List.{list_all}
use Rattle.std.specs.Str.{IsUtf8, IsAscii, is_utf8}
use Rattle.std.proofs.lemmas.Str.{IsUtf8-from_ascii, IsUtf8-from_is_utf8, is_utf8-from_IsUtf8}
use Rattle.pw_store_texts.specs.Names.{is_text_file}
use Rattle.pw_session_script.specs.Script.{file_in}
use Rattle.pw_top_words.specs.CommandLine.{are_digits, is_numeral, number_in}

both : (a b : Bool) → (a && b) ≡ true → (a ≡ true) × (b ≡ true)
both true b h = (refl, h)
both false b h = absurd (true≢false (sym h))

-- bytes of which each passes a test that ASCII alone passes
all_ascii : (p : ℕ → Bool) (bytes : List ℕ) → ((b : ℕ) → p b ≡ true → b < 128) → list_all p bytes ≡ true → IsAscii bytes
all_ascii p [] low h k = omega arith
all_ascii p (byte ∷ bytes) low h zero = low byte (both (p byte) (list_all p bytes) h).0
all_ascii p (byte ∷ bytes) low h (suc k) = all_ascii p bytes low (both (p byte) (list_all p bytes) h).1 k

low_digit : (b : ℕ) → is_ascii_digit b ≡ true → b < 128
low_digit b h = grind (arith, nat_tests, h)

-- a number's digits are text
pub no_text_no_number : (most : ℕ) (digits : List ℕ) → (IsUtf8 digits → ⊥) → number_in 0 most digits ≡ None
no_text_no_number most digits h = by_test (is_numeral digits) refl
  where
    by_test : (b : Bool) → is_numeral digits ≡ b → number_in 0 most digits ≡ None
    by_test true e = absurd (h (IsUtf8-from_ascii digits (all_ascii is_ascii_digit digits low_digit (both _ (are_digits digits) (both _ _ e).1).1)))
    by_test false e = rw e refl

by_text : (word : List ℕ) (a b : Bool) → a ≡ true → b ≡ true → cond (a && b) (Some word) None ≡ Some word
by_text word true true e f = refl
by_text word true false e f = cc
by_text word false b e f = cc

by_none : (word : List ℕ) (a b : Bool) → b ≡ false → cond (a && b) (Some word) None ≡ None
by_none word true true f = cc
by_none word true false f = refl
by_none word false b f = refl

-- a text's file whose name is in UTF-8
pub text_is_file : (word : List ℕ) → is_text_file word ≡ true → IsUtf8 word → file_in word ≡ Some word
text_is_file word e u = by_text word (is_text_file word) (is_utf8 word) e (is_utf8-from_IsUtf8 word u)

-- one that is not
pub no_text_no_file : (word : List ℕ) → (IsUtf8 word → ⊥) → file_in word ≡ None
no_text_no_file word h = by_none word (is_text_file word) (is_utf8 word) (false_from_ne_true (is_utf8 word) (λ t. h (IsUtf8-from_is_utf8 word t)))
