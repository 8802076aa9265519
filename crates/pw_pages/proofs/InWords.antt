-- Bytes and half words within words.
use Rattle.std.proofs.Common.{ℕ, zero, suc, ◌+◌, ◌-◌, ◌*◌, ◌/◌, ◌%◌, ◌^◌, ◌<◌, ◌≤◌, ◌≡◌, List, [], ◌∷◌, ◌++◌, length, get_or, refl, sym, ap, ◌∙◌, arith, length-append}
use Rattle.std.proofs.lemmas.List.{get_or-append_right, set-append_left, set-append_right}
use Rattle.std.proofs.Math.ListN.{get_or-append, set}
use Rattle.std.specs.Int.{to_be_bytes, w32}
use Rattle.pw_pages.specs.Bytes.{word_at, with_byte, with_half, with_word, bytes_of}

pub length-bytes_of : (words : List ℕ) → length (bytes_of words) ≡ 4 * length words
length-bytes_of [] = refl
length-bytes_of (word ∷ words) = omega (arith, length-append (to_be_bytes w32 word) (bytes_of words), length-bytes_of words)

-- a byte of the words is one of its word
pub byte_of_word : (words : List ℕ) (i k : ℕ) → i < length words → k < 4 → get_or (bytes_of words) (4 * i + k) 0 ≡ get_or (to_be_bytes w32 (get_or words i 0)) k 0
byte_of_word [] i k lt small = absurd (omega (arith, lt))
byte_of_word (word ∷ words) zero k lt small =
    let place : 4 * 0 + k ≡ k = omega arith in
    ap (λ (n : ℕ). get_or (to_be_bytes w32 word ++ bytes_of words) n 0) place ∙ get_or-append (to_be_bytes w32 word) (bytes_of words) 0 k (omega (arith, small))
byte_of_word (word ∷ words) (suc i) k lt small =
    let place : 4 * suc i + k - 4 ≡ 4 * i + k = omega arith in
    get_or-append_right (to_be_bytes w32 word) (bytes_of words) 4 (4 * suc i + k) 0 refl (omega arith)
    ∙ ap (λ (n : ℕ). get_or (bytes_of words) n 0) place
    ∙ byte_of_word words i k (omega (arith, lt)) small

-- a byte that is put into a word
pub put_in_word : (words : List ℕ) (i k byte word' : ℕ) → i < length words → k < 4 → to_be_bytes w32 word' ≡ set (to_be_bytes w32 (get_or words i 0)) k byte
    → set (bytes_of words) (4 * i + k) byte ≡ bytes_of (set words i word')
put_in_word [] i k byte word' lt small e = absurd (omega (arith, lt))
put_in_word (word ∷ words) zero k byte word' lt small e =
    let place : 4 * 0 + k ≡ k = omega arith in
    ap (λ (n : ℕ). set (to_be_bytes w32 word ++ bytes_of words) n byte) place
    ∙ set-append_left (to_be_bytes w32 word) (bytes_of words) k byte (omega (arith, small)) ∙ sym (ap (λ (l : List ℕ). l ++ bytes_of words) e)
put_in_word (word ∷ words) (suc i) k byte word' lt small e =
    let place : 4 * suc i + k - 4 ≡ 4 * i + k = omega arith in
    set-append_right (to_be_bytes w32 word) (bytes_of words) 4 (4 * suc i + k) byte refl (omega arith)
    ∙ ap (λ (n : ℕ). to_be_bytes w32 word ++ set (bytes_of words) n byte) place
    ∙ ap (λ (l : List ℕ). to_be_bytes w32 word ++ l) (put_in_word words i k byte word' (omega (arith, lt)) small e)

-- a word of the words
pub word_is : (words : List ℕ) (i : ℕ) → i < length words → get_or words i 0 < 2 ^ 32 → word_at (bytes_of words) (4 * i) ≡ get_or words i 0
word_is words i lt small =
    let zeroth : 4 * i + 0 ≡ 4 * i = omega arith in
    let third : 4 * i + 3 ≡ 4 * i + 2 + 1 = omega arith in
    let a = ap (λ (n : ℕ). get_or (bytes_of words) n 0) (sym zeroth) ∙ byte_of_word words i 0 lt (omega arith) in
    let b = byte_of_word words i 1 lt (omega arith) in
    let c = byte_of_word words i 2 lt (omega arith) in
    let d = ap (λ (n : ℕ). get_or (bytes_of words) n 0) (sym third) ∙ byte_of_word words i 3 lt (omega arith) in
    omega (arith, a, b, c, d, small)

-- ---- a word that is put behind four bytes

half_right : (xs ys : List ℕ) (a value : ℕ) → length xs ≡ 4 → 4 ≤ a → with_half (xs ++ ys) a value ≡ xs ++ with_half ys (a - 4) value
half_right xs ys a value four far =
    let place : a + 1 - 4 ≡ a - 4 + 1 = omega (arith, far) in
    ap (λ (l : List ℕ). with_byte l (a + 1) value) (set-append_right xs ys 4 a (value / 2 ^ 8 % 2 ^ 8) four far)
    ∙ set-append_right xs (with_byte ys (a - 4) (value / 2 ^ 8)) 4 (a + 1) (value % 2 ^ 8) four (omega (arith, far))
    ∙ ap (λ (n : ℕ). xs ++ with_byte (with_byte ys (a - 4) (value / 2 ^ 8)) n value) place

word_right : (xs ys : List ℕ) (a value : ℕ) → length xs ≡ 4 → 4 ≤ a → with_word (xs ++ ys) a value ≡ xs ++ with_word ys (a - 4) value
word_right xs ys a value four far =
    let place : a + 2 - 4 ≡ a - 4 + 2 = omega (arith, far) in
    ap (λ (l : List ℕ). with_half l (a + 2) value) (half_right xs ys a (value / 2 ^ 16) four far)
    ∙ half_right xs (with_half ys (a - 4) (value / 2 ^ 16)) (a + 2) value four (omega (arith, far))
    ∙ ap (λ (n : ℕ). xs ++ with_half (with_half ys (a - 4) (value / 2 ^ 16)) n value) place

-- a word that is put over the first four bytes
word_first : (word value : ℕ) (rest : List ℕ) → with_word (to_be_bytes w32 word ++ rest) 0 value ≡ to_be_bytes w32 value ++ rest
word_first word value rest =
    let a : value / 2 ^ 16 / 2 ^ 8 % 2 ^ 8 ≡ get_or (to_be_bytes w32 value) 0 0 = omega arith in
    let b : value / 2 ^ 16 % 2 ^ 8 ≡ get_or (to_be_bytes w32 value) 1 0 = omega arith in
    let c : value / 2 ^ 8 % 2 ^ 8 ≡ get_or (to_be_bytes w32 value) 2 0 = omega arith in
    let d : value % 2 ^ 8 ≡ get_or (to_be_bytes w32 value) 3 0 = omega arith in
    ap (λ (n : ℕ). n ∷ value / 2 ^ 16 % 2 ^ 8 ∷ value / 2 ^ 8 % 2 ^ 8 ∷ value % 2 ^ 8 ∷ rest) a
    ∙ ap (λ (n : ℕ). get_or (to_be_bytes w32 value) 0 0 ∷ n ∷ value / 2 ^ 8 % 2 ^ 8 ∷ value % 2 ^ 8 ∷ rest) b
    ∙ ap (λ (n : ℕ). get_or (to_be_bytes w32 value) 0 0 ∷ get_or (to_be_bytes w32 value) 1 0 ∷ n ∷ value % 2 ^ 8 ∷ rest) c
    ∙ ap (λ (n : ℕ). get_or (to_be_bytes w32 value) 0 0 ∷ get_or (to_be_bytes w32 value) 1 0 ∷ get_or (to_be_bytes w32 value) 2 0 ∷ n ∷ rest) d

-- a word that is put among words
pub put_word : (words : List ℕ) (i value : ℕ) → i < length words → with_word (bytes_of words) (4 * i) value ≡ bytes_of (set words i value)
put_word [] i value lt = absurd (omega (arith, lt))
put_word (word ∷ words) zero value lt = word_first word value (bytes_of words)
put_word (word ∷ words) (suc i) value lt =
    let place : 4 * suc i - 4 ≡ 4 * i = omega arith in
    word_right (to_be_bytes w32 word) (bytes_of words) (4 * suc i) value refl (omega arith)
    ∙ ap (λ (n : ℕ). to_be_bytes w32 word ++ with_word (bytes_of words) n value) place
    ∙ ap (λ (l : List ℕ). to_be_bytes w32 word ++ l) (put_word words i value (omega (arith, lt)))

-- ---- parts of a word

pub byte_shifted : (word k : ℕ) → k < 4 → word / 2 ^ (24 - 8 * k) % 2 ^ 8 ≡ get_or (to_be_bytes w32 word) k 0
byte_shifted word zero lt = omega arith
byte_shifted word (suc zero) lt = omega arith
byte_shifted word (suc (suc zero)) lt = omega arith
byte_shifted word (suc (suc (suc zero))) lt = omega arith
byte_shifted word (suc (suc (suc (suc k)))) lt = absurd (omega (arith, lt))

pub half_shifted : (word k : ℕ) → k < 4 → k % 2 ≡ 0 → word / 2 ^ (16 - 8 * k) % 2 ^ 16 ≡ get_or (to_be_bytes w32 word) k 0 * 2 ^ 8 + get_or (to_be_bytes w32 word) (k + 1) 0
half_shifted word zero lt even = omega arith
half_shifted word (suc zero) lt even = absurd (omega (arith, even))
half_shifted word (suc (suc zero)) lt even = omega arith
half_shifted word (suc (suc (suc zero))) lt even = absurd (omega (arith, even))
half_shifted word (suc (suc (suc (suc k)))) lt even = absurd (omega (arith, lt))

-- a word whose byte at a place is another: no number is passed, and the bytes are these

abbrev pub old_byte : ℕ → ℕ → ℕ
old_byte word place = word / 2 ^ (24 - 8 * place) % 2 ^ 8 * 2 ^ (24 - 8 * place) % 2 ^ 32

abbrev pub new_byte : ℕ → ℕ → ℕ
new_byte place value = value % 2 ^ 8 * 2 ^ (24 - 8 * place) % 2 ^ 32

pub record IsWithByte (word place value : ℕ) : Type 0 where
  pub small : old_byte word place ≤ word
  pub fits : word - old_byte word place + new_byte place value < 2 ^ 32
  pub bytes : to_be_bytes w32 (word - old_byte word place + new_byte place value) ≡ set (to_be_bytes w32 word) place (value % 2 ^ 8)

four_bytes : (n a b c d : ℕ) → n / 2 ^ 24 % 2 ^ 8 ≡ a → n / 2 ^ 16 % 2 ^ 8 ≡ b → n / 2 ^ 8 % 2 ^ 8 ≡ c → n % 2 ^ 8 ≡ d → to_be_bytes w32 n ≡ a ∷ b ∷ c ∷ d ∷ []
four_bytes n a b c d ea eb ec ed =
    ap (λ (x : ℕ). x ∷ n / 2 ^ 16 % 2 ^ 8 ∷ n / 2 ^ 8 % 2 ^ 8 ∷ n % 2 ^ 8 ∷ []) ea
    ∙ ap (λ (x : ℕ). a ∷ x ∷ n / 2 ^ 8 % 2 ^ 8 ∷ n % 2 ^ 8 ∷ []) eb
    ∙ ap (λ (x : ℕ). a ∷ b ∷ x ∷ n % 2 ^ 8 ∷ []) ec
    ∙ ap (λ (x : ℕ). a ∷ b ∷ c ∷ x ∷ []) ed

pub with_byte_is : (word place value : ℕ) → word < 2 ^ 32 → place < 4 → IsWithByte word place value
with_byte_is word zero value small lt = record {
  small = omega (arith, small);
  fits = omega (arith, small);
  bytes = four_bytes _ _ _ _ _ (omega (arith, small)) (omega (arith, small)) (omega (arith, small)) (omega (arith, small));
}
with_byte_is word (suc zero) value small lt = record {
  small = omega (arith, small);
  fits = omega (arith, small);
  bytes = four_bytes _ _ _ _ _ (omega (arith, small)) (omega (arith, small)) (omega (arith, small)) (omega (arith, small));
}
with_byte_is word (suc (suc zero)) value small lt = record {
  small = omega (arith, small);
  fits = omega (arith, small);
  bytes = four_bytes _ _ _ _ _ (omega (arith, small)) (omega (arith, small)) (omega (arith, small)) (omega (arith, small));
}
with_byte_is word (suc (suc (suc zero))) value small lt = record {
  small = omega (arith, small);
  fits = omega (arith, small);
  bytes = four_bytes _ _ _ _ _ (omega (arith, small)) (omega (arith, small)) (omega (arith, small)) (omega (arith, small));
}
with_byte_is word (suc (suc (suc (suc k)))) value small lt = absurd (omega (arith, lt))
