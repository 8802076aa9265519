-- Characters that are told up to 256 alone: whether all are bytes can be told, and then they are what they are.
use Rattle.std.proofs.Common.{◌≡◌, ℕ, ◌≤◌, ◌||◌, nat_lt, not, Bool, true, false, Some, None, List, [], ◌∷◌, map, refl, ap, ◌∙◌, arith, if◌then◌else◌}
use Rattle.std.specs.List.{list_any}
use Rattle.std.proofs.lemmas.Bool.{ltb-false}
use Rattle.pw_check_literals.specs.Characters.{fits_bytes, character_value, one_character}
use Rattle.pw_check_literals.specs.Narrow.{narrow}

narrow_wide : (n : ℕ) → nat_lt 255 (narrow n) ≡ nat_lt 255 n
narrow_wide n = grind arith

wide_same : (cs : List ℕ) → list_any (λ c. nat_lt 255 c) (map narrow cs) ≡ list_any (λ c. nat_lt 255 c) cs
wide_same [] = refl
wide_same (c ∷ cs) =
    ap (λ b. b || list_any (λ x. nat_lt 255 x) (map narrow cs)) (narrow_wide c) ∙ ap (λ b. nat_lt 255 c || b) (wide_same cs)

pub narrow_fits : (cs : List ℕ) → fits_bytes (map narrow cs) ≡ fits_bytes cs
narrow_fits cs = ap not (wide_same cs)

narrow_byte : (c : ℕ) → nat_lt 255 c ≡ false → narrow c ≡ c
narrow_byte c e = let small : c ≤ 255 = ltb-false 255 c e in grind arith

all_bytes : (cs : List ℕ) → list_any (λ c. nat_lt 255 c) cs ≡ false → map narrow cs ≡ cs
all_bytes [] e = refl
all_bytes (c ∷ cs) e = by_head (nat_lt 255 c) refl e (all_bytes cs)
  where
    by_head : (x : Bool) → nat_lt 255 c ≡ x → (x || list_any (λ d. nat_lt 255 d) cs) ≡ false
        → (list_any (λ d. nat_lt 255 d) cs ≡ false → map narrow cs ≡ cs) → map narrow (c ∷ cs) ≡ c ∷ cs
    by_head true h all rest = grind arith
    by_head false h all rest = ap (λ n. n ∷ map narrow cs) (narrow_byte c h) ∙ ap (λ l. c ∷ l) (rest all)

pub narrow_same : (cs : List ℕ) → fits_bytes cs ≡ true → map narrow cs ≡ cs
narrow_same cs e = all_bytes cs (opposite (list_any (λ c. nat_lt 255 c) cs) e)
  where
    opposite : (b : Bool) → not b ≡ true → b ≡ false
    opposite true h = grind arith
    opposite false h = refl

pub narrow_one : (cs : List ℕ) → one_character (map narrow cs) ≡ one_character cs
narrow_one [] = refl
narrow_one (c ∷ []) = by_width (nat_lt 255 c) refl
  where
    by_width : (x : Bool) → nat_lt 255 c ≡ x
        → (if nat_lt 255 (narrow c) then None else Some (character_value (narrow c))) ≡ (if x then None else Some (character_value c))
    by_width true e = ap (λ b. if b then None else Some (character_value (narrow c))) (narrow_wide c ∙ e)
    by_width false e =
        ap (λ b. if b then None else Some (character_value (narrow c))) (narrow_wide c ∙ e)
        ∙ ap (λ n. Some (character_value n)) (narrow_byte c e)
narrow_one (c ∷ d ∷ cs) = refl
