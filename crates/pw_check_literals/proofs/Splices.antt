-- A backslash before a newline is passed over.
use Rattle.std.proofs.Common.{◌≡◌, ℕ, ◌-◌, ◌≤◌, true, false, List, [], ◌∷◌, ◌++◌, map, length, get_or, take, drop, refl, sym, ap, ◌∙◌, arith, if◌then◌else◌}
use Rattle.std.proofs.lemmas.List.{take_rest}
use Rattle.pw_check_literals.specs.Characters.{Escape, known_with, escape_after, characters_from, begins_splice, spliced}
use Rattle.pw_check_literals.specs.Narrow.{narrow, narrowed}
use Rattle.pw_check_literals.proofs.Narrowing.{byte_more}

pub behind_splice : (xs : List ℕ) → begins_splice xs ≡ true → spliced (drop 2 xs) ≡ spliced xs
behind_splice [] e = grind arith
behind_splice (c ∷ []) e = grind arith
behind_splice (c ∷ d ∷ rest) e = sym (ap (λ b. if b then spliced rest else c ∷ spliced (d ∷ rest)) e)

pub splice_length : (xs : List ℕ) → begins_splice xs ≡ true → 2 ≤ length xs
splice_length [] e = grind arith
splice_length (c ∷ []) e = grind arith
splice_length (c ∷ d ∷ rest) e = omega arith

one_byte : (c : ℕ) (rest : List ℕ) → begins_splice (c ∷ rest) ≡ false → spliced (c ∷ rest) ≡ c ∷ spliced rest
one_byte c [] e = refl
one_byte c (d ∷ rest) e = ap (λ b. if b then spliced rest else c ∷ spliced (d ∷ rest)) e

pub byte_step : (e next : Escape) (xs old new after : List ℕ) (d : ℕ) → 1 ≤ length xs → begins_splice xs ≡ false
    → spliced after ≡ spliced (take (length xs - 1) (drop 1 xs))
    → next ≡ narrowed (escape_after e (get_or xs 0 d))
    → new ≡ old ++ map narrow (known_with e (get_or xs 0 d))
    → new ++ map narrow (characters_from next (spliced after)) ≡ old ++ map narrow (characters_from e (spliced xs))
byte_step e next [] old new after d h none same e' grown = absurd (omega arith)
byte_step e next (c ∷ rest) old new after d h none same e' grown =
    ap (λ l. new ++ map narrow (characters_from next l)) (same ∙ ap spliced (take_rest (c ∷ rest) 1))
    ∙ (byte_more e next c (spliced rest) old new e' grown
    ∙ ap (λ l. old ++ map narrow (characters_from e l)) (sym (one_byte c rest none)))
