-- Decimal digits at the beginning of a text.
use Rattle.std.proofs.Common.{◌≡◌, ℕ, ◌+◌, ◌<◌, Bool, true, false, cond, ◌&&◌, List, [], ◌∷◌, ◌++◌, length, take, drop, arith, refl, IsTrue, ap, ◌∙◌, sym, one-add}
use Rattle.std.proofs.lemmas.Grind.{common_steps}
use Rattle.std.proofs.lemmas.List.{take-append-drop}
use Rattle.std.proofs.lemmas.List.Folds.{length-prefix_len}
use Rattle.std.proofs.Math.Seq.{drop-append_seam}
use Rattle.std.specs.Char.{is_ascii_digit}
use Rattle.std.specs.List.{list_all, prefix_len}
use Rattle.std.specs.Cmp.Lexicographic.{pointwise}
use lib.Pointwise.{bytes_decides}
use Rattle.std.specs.Prelude.{◌==◌}
use Rattle.pw_value.specs.Shapes.{GivesDigits, Begins}

-- what stands before the first element that fails passes
list_all-take_prefix_len :
    (p : ℕ → Bool) (xs : List ℕ) → list_all p (take (prefix_len p xs) xs) ≡ true
list_all-take_prefix_len p [] = refl
list_all-take_prefix_len p (x ∷ xs) =
    elim (p x) as (λ b. p x ≡ b → list_all p (take (cond b (1 + prefix_len p xs) 0) (x ∷ xs)) ≡ true) [
      | true ↦ λ e. rw one-add (ap (λ v. v && list_all p (take (prefix_len p xs) xs)) e ∙ list_all-take_prefix_len p xs)
      | false ↦ λ e. refl
    ] refl

-- elements that pass, before one that fails, are all that pass at the beginning
prefix_len-append_fails :
    (p : ℕ → Bool) (xs : List ℕ) (y : ℕ) (ys : List ℕ)
    → list_all p xs ≡ true
    → p y ≡ false
    → prefix_len p (xs ++ y ∷ ys) ≡ length xs
prefix_len-append_fails p [] y ys all fails = grind (arith, common_steps)
prefix_len-append_fails p (x ∷ xs) y ys all fails = grind (arith, common_steps, prefix_len-append_fails p xs y ys)

-- the digits at the beginning, and after them the closing text
GivesDigits-from_front :
    (closing text : List ℕ)
    → 0 < prefix_len is_ascii_digit text
    → drop (prefix_len is_ascii_digit text) text ≡ closing
    → GivesDigits closing text
GivesDigits-from_front closing text some ends = (
  take (prefix_len is_ascii_digit text) text,
  (
    (rw (length-prefix_len is_ascii_digit text) some, list_all-take_prefix_len is_ascii_digit text),
    (sym (take-append-drop (prefix_len is_ascii_digit text) text) ∙ ap (λ rest. take (prefix_len is_ascii_digit text) text ++ rest) ends),
  ),
)

-- a number before a text that begins with no digit is all the digits at the beginning
drop-of_GivesDigits :
    (closing text : List ℕ)
    → Begins 93 closing
    → GivesDigits closing text
    → drop (prefix_len is_ascii_digit text) text ≡ closing
drop-of_GivesDigits closing text (rest, starts) (count, ((some, digits), is)) =
    let whole : text ≡ count ++ 93 ∷ rest = is ∙ ap (λ c. count ++ c) starts in
    let many : prefix_len is_ascii_digit text ≡ length count =
    ap (prefix_len is_ascii_digit) whole ∙ prefix_len-append_fails is_ascii_digit count 93 rest digits refl in
    rw (many, is) (drop-append_seam count closing)

-- a number stands before the closing text exactly where the digits at the front end there
pub GivesDigits-by_front :
    (closing text part : List ℕ) (digits : ℕ) (same : Bool)
    → Begins 93 closing
    → digits ≡ prefix_len is_ascii_digit text
    → 0 < digits
    → part ≡ drop digits text
    → same ≡ pointwise ◌==◌ part closing
    → (IsTrue same → GivesDigits closing text) × (GivesDigits closing text → IsTrue same)
GivesDigits-by_front closing text part digits same begins many some is tests = (
  (λ h. GivesDigits-from_front closing text (rw (← many) some)
      (ap (λ n. drop n text) (sym many) ∙ sym is ∙ (bytes_decides part closing).0 (sym tests ∙ h))),
  (λ gives. tests ∙ (bytes_decides part closing).1
      (is ∙ ap (λ n. drop n text) many ∙ drop-of_GivesDigits closing text begins gives)),
)

-- with no digit at the beginning no number stands there
pub no_GivesDigits :
    (closing text : List ℕ)
    → Begins 93 closing
    → prefix_len is_ascii_digit text ≡ 0
    → GivesDigits closing text
    → ⊥
no_GivesDigits closing text (rest, starts) none (count, ((some, digits), is)) =
    let whole : text ≡ count ++ 93 ∷ rest = is ∙ ap (λ c. count ++ c) starts in
    let many : prefix_len is_ascii_digit text ≡ length count =
    ap (prefix_len is_ascii_digit) whole ∙ prefix_len-append_fails is_ascii_digit count 93 rest digits refl in
    omega arith
