-- Reading and storing in memory.
use Rattle.std.proofs.Common.{ℕ, ◌≡◌, ◌≢◌, ◌+◌, ◌/◌, ◌%◌, ◌^◌, ◌<◌, ◌≤◌, ◌⊎◌, inl, inr, List, length, arith, refl, ◌∙◌, length-set, get_or-set_same, get_or-set_other}
use Rattle.pw_machine.specs.Core.{Core, byte_at, half_at, word_at, with_byte, with_half, with_word}
use Rattle.pw_law_code.specs.Lawful.{HasSameText}

pub byte_size : (memory : List ℕ) (a value : ℕ) → length (with_byte memory a value) ≡ length memory
byte_size memory a value = length-set memory a (value % 2 ^ 8)

pub half_size : (memory : List ℕ) (a value : ℕ) → length (with_half memory a value) ≡ length memory
half_size memory a value = byte_size (with_byte memory a (value / 2 ^ 8)) (a + 1) value ∙ byte_size memory a (value / 2 ^ 8)

pub word_size : (memory : List ℕ) (a value : ℕ) → length (with_word memory a value) ≡ length memory
word_size memory a value = half_size (with_half memory a (value / 2 ^ 16)) (a + 2) value ∙ half_size memory a (value / 2 ^ 16)

pub byte_stored : (memory : List ℕ) (a value : ℕ) → a < length memory → byte_at (with_byte memory a value) a ≡ value % 2 ^ 8
byte_stored memory a value within = get_or-set_same memory a (value % 2 ^ 8) 0 within

pub byte_other : (memory : List ℕ) (a p value : ℕ) → p ≢ a → byte_at (with_byte memory a value) p ≡ byte_at memory p
byte_other memory a p value other = get_or-set_other memory a p (value % 2 ^ 8) 0 other

pub half_other : (memory : List ℕ) (a p value : ℕ) → (p < a) ⊎ (a + 2 ≤ p) → byte_at (with_half memory a value) p ≡ byte_at memory p
half_other memory a p value (inl before) =
    byte_other (with_byte memory a (value / 2 ^ 8)) (a + 1) p value (λ e. omega (arith, e, before))
    ∙ byte_other memory a p (value / 2 ^ 8) (λ e. omega (arith, e, before))
half_other memory a p value (inr behind) =
    byte_other (with_byte memory a (value / 2 ^ 8)) (a + 1) p value (λ e. omega (arith, e, behind))
    ∙ byte_other memory a p (value / 2 ^ 8) (λ e. omega (arith, e, behind))

pub word_other : (memory : List ℕ) (a p value : ℕ) → (p < a) ⊎ (a + 4 ≤ p) → byte_at (with_word memory a value) p ≡ byte_at memory p
word_other memory a p value (inl before) =
    half_other (with_half memory a (value / 2 ^ 16)) (a + 2) p value (inl (omega arith))
    ∙ half_other memory a p (value / 2 ^ 16) (inl before)
word_other memory a p value (inr behind) =
    half_other (with_half memory a (value / 2 ^ 16)) (a + 2) p value (inr (omega arith))
    ∙ half_other memory a p (value / 2 ^ 16) (inr (omega arith))

-- the two bytes of a half word
high_stored : (memory : List ℕ) (a value : ℕ) → a + 2 ≤ length memory → byte_at (with_half memory a value) a ≡ value / 2 ^ 8 % 2 ^ 8
high_stored memory a value within =
    byte_other (with_byte memory a (value / 2 ^ 8)) (a + 1) a value (λ e. omega (arith, e))
    ∙ byte_stored memory a (value / 2 ^ 8) (omega arith)

low_stored : (memory : List ℕ) (a value : ℕ) → a + 2 ≤ length memory → byte_at (with_half memory a value) (a + 1) ≡ value % 2 ^ 8
low_stored memory a value within = byte_stored (with_byte memory a (value / 2 ^ 8)) (a + 1) value (omega (arith, byte_size memory a (value / 2 ^ 8)))

pub half_stored : (memory : List ℕ) (a value : ℕ) → a + 2 ≤ length memory → half_at (with_half memory a value) a ≡ value % 2 ^ 16
half_stored memory a value within = omega (arith, high_stored memory a value within, low_stored memory a value within)

-- the high half word stays when the low one is stored
high_half : (memory : List ℕ) (a value : ℕ) → half_at (with_half memory (a + 2) value) a ≡ half_at memory a
high_half memory a value =
    let one = half_other memory (a + 2) a value (inl (omega arith)) in
    let two = half_other memory (a + 2) (a + 1) value (inl (omega arith)) in
    omega (arith, one, two)

pub word_stored : (memory : List ℕ) (a value : ℕ) → a + 4 ≤ length memory → word_at (with_word memory a value) a ≡ value % 2 ^ 32
word_stored memory a value within =
    let high : half_at (with_word memory a value) a ≡ value / 2 ^ 16 % 2 ^ 16 =
    high_half (with_half memory a (value / 2 ^ 16)) a value ∙ half_stored memory a (value / 2 ^ 16) (omega arith) in
    let low : half_at (with_word memory a value) (a + 2) ≡ value % 2 ^ 16 =
    half_stored (with_half memory a (value / 2 ^ 16)) (a + 2) value (omega (arith, half_size memory a (value / 2 ^ 16))) in
    omega (arith, high, low)

-- ---- the text

pub text_word : (old new : Core) (a : ℕ) → HasSameText old new → a + 4 ≤ old.data_start → word_at new.memory a ≡ word_at old.memory a
text_word old new a same below =
    let one = same.bytes a (omega arith) in
    let two = same.bytes (a + 1) (omega arith) in
    let three = same.bytes (a + 2) (omega arith) in
    let four = same.bytes (a + 2 + 1) (omega arith) in
    rw (one, two, three, four) refl
