-- The bytes of a word, of which the lowest comes first off.
use Rattle.std.proofs.Common.{◌≡◌, ℕ, zero, suc, ◌+◌, ◌-◌, ◌/◌, ◌%◌, List, [], ◌∷◌, ◌++◌, reverse, refl, ap, sym, ◌∙◌, append_assoc, arith}
use Rattle.std.proofs.lemmas.List.{reverse-append}
use Rattle.pw_check_rules.specs.Initialisers.{word_bytes}

pub minus_none : (n : ℕ) → n - 0 ≡ n
minus_none n = omega arith

-- one byte more
pub byte_off : (size less n : ℕ) (bytes : List ℕ) → size ≡ less + 1 → word_bytes size n ++ reverse bytes ≡ word_bytes less (n / 256) ++ reverse (bytes ++ n % 256 ∷ [])
byte_off zero less n bytes e = absurd (omega arith)
byte_off (suc size) less n bytes e =
    let same : size ≡ less = omega arith in
    append_assoc (word_bytes size (n / 256)) (n % 256 ∷ []) (reverse bytes)
    ∙ ap (λ k. word_bytes k (n / 256) ++ (n % 256 ∷ reverse bytes)) same
    ∙ ap (λ rest. word_bytes less (n / 256) ++ rest) (sym (reverse-append bytes (n % 256 ∷ [])))

pub bytes_off : (size n : ℕ) (bytes : List ℕ) → size ≡ 0 → word_bytes size n ++ reverse bytes ≡ reverse bytes
bytes_off zero n bytes e = refl
bytes_off (suc size) n bytes e = absurd (omega arith)
