-- What is read with values of escapes that are told up to 256 alone is what is read, so told.
use Rattle.std.proofs.Common.{◌≡◌, ℕ, zero, suc, ◌+◌, ◌*◌, ◌≤◌, Bool, true, false, List, [], ◌∷◌, ◌++◌, map, refl, sym, ap, ◌∙◌, arith, if◌then◌else◌}
use Rattle.pw_check_literals.specs.Characters.{Escape, NoEscape, Backslash, Octal, Hexadecimal, goes_on, plainly, begun_by, known_with, escape_after, known_at_end, characters_from}
use Rattle.pw_check_literals.specs.Integers.{digit_value}
use Rattle.pw_token.specs.Bytes.{is_in}
use Rattle.pw_token.specs.declared.bytes.Class.TheVariants.{HexDigit}
use Rattle.pw_check_literals.specs.Narrow.{narrow, narrowed}

twice : (n : ℕ) → narrow (narrow n) ≡ narrow n
twice n = grind arith

end_narrowed : (e : Escape) → map narrow (known_at_end (narrowed e)) ≡ map narrow (known_at_end e)
end_narrowed NoEscape = refl
end_narrowed Backslash = refl
end_narrowed (Octal value digits) = ap (λ n. n ∷ []) (twice value)
end_narrowed (Hexadecimal value) = ap (λ n. n ∷ []) (twice value)

known_value : (x : Bool) (value c : ℕ)
    → map narrow (if x then [] else narrow value ∷ plainly c) ≡ map narrow (if x then [] else value ∷ plainly c)
known_value true value c = refl
known_value false value c = ap (λ n. n ∷ map narrow (plainly c)) (twice value)

known_narrowed : (e : Escape) (c : ℕ) → map narrow (known_with (narrowed e) c) ≡ map narrow (known_with e c)
known_narrowed NoEscape c = refl
known_narrowed Backslash c = refl
known_narrowed (Octal value digits) c = known_value (goes_on digits c) value c
known_narrowed (Hexadecimal value) c = known_value (is_in HexDigit c) value c

digit_narrowed : (v b d : ℕ) → 1 ≤ b → narrow (narrow v * b + d) ≡ narrow (v * b + d)
digit_narrowed v zero d h = absurd (omega arith)
digit_narrowed v (suc k) d h = grind arith

after_value : (x : Bool) (e e' : Escape) (c : ℕ) → narrowed e ≡ narrowed e'
    → narrowed (if x then e else begun_by c) ≡ narrowed (if x then e' else begun_by c)
after_value true e e' c same = same
after_value false e e' c same = refl

after_narrowed : (e : Escape) (c : ℕ) → narrowed (escape_after (narrowed e) c) ≡ narrowed (escape_after e c)
after_narrowed NoEscape c = refl
after_narrowed Backslash c = refl
after_narrowed (Octal value digits) c =
    after_value (goes_on digits c) (Octal (narrow value * 8 + digit_value c) (digits + 1)) (Octal (value * 8 + digit_value c) (digits + 1)) c
    (ap (λ n. Octal n (digits + 1)) (digit_narrowed value 8 (digit_value c) (omega arith)))
after_narrowed (Hexadecimal value) c =
    after_value (is_in HexDigit c) (Hexadecimal (narrow value * 16 + digit_value c)) (Hexadecimal (value * 16 + digit_value c)) c
    (ap Hexadecimal (digit_narrowed value 16 (digit_value c) (omega arith)))

map-append : (xs ys : List ℕ) → map narrow (xs ++ ys) ≡ map narrow xs ++ map narrow ys
map-append [] ys = refl
map-append (x ∷ xs) ys = ap (λ l. narrow x ∷ l) (map-append xs ys)

append-assoc : (xs ys zs : List ℕ) → (xs ++ ys) ++ zs ≡ xs ++ (ys ++ zs)
append-assoc [] ys zs = refl
append-assoc (x ∷ xs) ys zs = ap (λ l. x ∷ l) (append-assoc xs ys zs)

pub from_narrowed : (xs : List ℕ) (e : Escape) → map narrow (characters_from (narrowed e) xs) ≡ map narrow (characters_from e xs)
from_narrowed [] e = end_narrowed e
from_narrowed (c ∷ xs) e =
    map-append (known_with (narrowed e) c) (characters_from (escape_after (narrowed e) c) xs)
    ∙ (ap (λ l. l ++ map narrow (characters_from (escape_after (narrowed e) c) xs)) (known_narrowed e c)
    ∙ (ap (λ l. map narrow (known_with e c) ++ l)
    (sym (from_narrowed xs (escape_after (narrowed e) c))
    ∙ (ap (λ n. map narrow (characters_from n xs)) (after_narrowed e c)
    ∙ from_narrowed xs (escape_after e c)))
    ∙ sym (map-append (known_with e c) (characters_from (escape_after e c) xs))))

-- one byte more
pub byte_more : (e next : Escape) (c : ℕ) (xs old new : List ℕ) → next ≡ narrowed (escape_after e c)
    → new ≡ old ++ map narrow (known_with e c)
    → new ++ map narrow (characters_from next xs) ≡ old ++ map narrow (characters_from e (c ∷ xs))
byte_more e next c xs old new e' grown =
    ap (λ l. l ++ map narrow (characters_from next xs)) grown
    ∙ (append-assoc old (map narrow (known_with e c)) (map narrow (characters_from next xs))
    ∙ ap (λ l. old ++ l)
    (ap (λ l. map narrow (known_with e c) ++ l)
    (ap (λ n. map narrow (characters_from n xs)) e' ∙ from_narrowed xs (escape_after e c))
    ∙ sym (map-append (known_with e c) (characters_from (escape_after e c) xs))))
