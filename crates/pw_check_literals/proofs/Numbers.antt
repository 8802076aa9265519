-- A number that is capped at each digit is the number, capped.
use Rattle.std.proofs.Common.{◌≡◌, ◌≢◌, ℕ, zero, suc, ◌+◌, ◌*◌, ◌^◌, ◌≤◌, min, List, [], ◌∷◌, fold, ◌||◌, refl, arith, length, get_or, take, drop, ◌-◌, ◌∙◌, sym, ap, Bool, true, false, if◌then◌else◌}
use Rattle.std.proofs.lemmas.List.{take_rest}
use Rattle.pw_check_literals.specs.Integers.{digit_value, without_suffix, number_in, value_behind_zero, is_unsigned_mark, is_long_mark}

abbrev pub with_digit : ℕ → ℕ → ℕ → ℕ
with_digit base n c = n * base + digit_value c

capped_step : (b m d : ℕ) → 1 ≤ b → min (min m (2 ^ 32) * b + d) (2 ^ 32) ≡ min (m * b + d) (2 ^ 32)
capped_step zero m d h = absurd (omega arith)
capped_step (suc k) m d h = grind arith

pub capped_fold : (base : ℕ) → 1 ≤ base → (m : ℕ) (xs : List ℕ)
    → min (fold (with_digit base) (min m (2 ^ 32)) xs) (2 ^ 32) ≡ min (fold (with_digit base) m xs) (2 ^ 32)
capped_fold base h m [] = grind arith
capped_fold base h m (c ∷ xs) =
    sym (capped_fold base h (min m (2 ^ 32) * base + digit_value c) xs)
    ∙ (ap (λ n. min (fold (with_digit base) n xs) (2 ^ 32)) (capped_step base m (digit_value c) h)
    ∙ capped_fold base h (m * base + digit_value c) xs)

-- one digit more
pub digit_more : (base n c : ℕ) (rest : List ℕ) → 1 ≤ base → (is_unsigned_mark c || is_long_mark c) ≡ false
    → min (fold (with_digit base) (min (n * base + digit_value c) (2 ^ 32)) (without_suffix rest)) (2 ^ 32)
    ≡ min (fold (with_digit base) n (without_suffix (c ∷ rest))) (2 ^ 32)
digit_more base n c rest h e = capped_fold base h (n * base + digit_value c) (without_suffix rest) ∙ sym (ap (λ b. min (fold (with_digit base) n (if b then [] else c ∷ without_suffix rest)) (2 ^ 32)) e)

pub digits_end : (base n c : ℕ) (rest : List ℕ) → n ≤ 2 ^ 32 → (is_unsigned_mark c || is_long_mark c) ≡ true
    → n ≡ min (fold (with_digit base) n (without_suffix (c ∷ rest))) (2 ^ 32)
digits_end base n c rest h e = at_end ∙ sym (ap (λ b. min (fold (with_digit base) n (if b then [] else c ∷ without_suffix rest)) (2 ^ 32)) e)
  where
    at_end : n ≡ min n (2 ^ 32)
    at_end = grind arith

-- the front of an octal and of a hexadecimal constant
pub octal_front : (rest : List ℕ) → (c : ℕ) → c ≢ 120 → c ≢ 88 → value_behind_zero (without_suffix (c ∷ rest)) ≡ number_in 8 (without_suffix (c ∷ rest))
octal_front rest c a b = by_suffix (is_unsigned_mark c || is_long_mark c)
  where
    by_suffix : (x : Bool) → value_behind_zero (if x then [] else c ∷ without_suffix rest) ≡ number_in 8 (if x then [] else c ∷ without_suffix rest)
    by_suffix true = refl
    by_suffix false = grind arith

-- the same of what is left of a slice
pub number_step : (base n d : ℕ) (xs : List ℕ) → 1 ≤ base → 1 ≤ length xs
    → (is_unsigned_mark (get_or xs 0 d) || is_long_mark (get_or xs 0 d)) ≡ false
    → min (fold (with_digit base) (min (n * base + digit_value (get_or xs 0 d)) (2 ^ 32)) (without_suffix (take (length xs - 1) (drop 1 xs)))) (2 ^ 32)
    ≡ min (fold (with_digit base) n (without_suffix xs)) (2 ^ 32)
number_step base n d [] h l e = absurd (omega arith)
number_step base n d (c ∷ rest) h l e =
    rw (take_rest (c ∷ rest) 1) (digit_more base n c rest h e)
