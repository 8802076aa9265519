-- Bytes written over a memory: one by one, and word by word.
use Rattle.std.proofs.Common.{ℕ, zero, suc, ◌+◌, ◌*◌, ◌/◌, ◌%◌, ◌^◌, ◌<◌, ◌≤◌, ◌≡◌, List, [], ◌∷◌, ◌++◌, length, take, drop, get_or, refl, sym, ap, subst, ◌∙◌, arith, append_assoc, append-nil, length-append, length-drop, add-zero}
use Rattle.std.proofs.lemmas.List.{take-append-drop, drop-drop, length-take-le, take_more}
use Rattle.std.proofs.Math.ListN.{set}
use Rattle.std.proofs.Math.Seq.{take-append_seam, drop-append-add}
use Rattle.std.specs.Int.{to_be_bytes, w32}
use Rattle.pw_pages.specs.Bytes.{with_word, overwritten, bytes_of}
use Rattle.pw_pages.proofs.InWords.{length-bytes_of}

pub overwritten-none : (memory : List ℕ) (a : ℕ) → overwritten memory a [] ≡ memory
overwritten-none memory a = rw (append-nil, add-zero) (take-append-drop a memory)

pub length-overwritten : (memory : List ℕ) (a : ℕ) (bytes : List ℕ) → a + length bytes ≤ length memory → length (overwritten memory a bytes) ≡ length memory
length-overwritten memory a bytes fits =
    let le : a ≤ length memory = omega arith in
    omega (arith, length-append (take a memory ++ bytes) (drop (a + length bytes) memory), length-append (take a memory) bytes, length-take-le a memory le, length-drop (a + length bytes) memory)

-- bytes, and then more bytes right after them
pub overwritten-more : (memory : List ℕ) (a : ℕ) (xs ys : List ℕ) → a ≤ length memory → overwritten (overwritten memory a xs) (a + length xs) ys ≡ overwritten memory a (xs ++ ys)
overwritten-more memory a xs ys fits =
    let front = take a memory ++ xs in
    let rest = drop (a + length xs) memory in
    let end = drop (a + length xs + length ys) memory in
    let len : length front ≡ a + length xs = omega (arith, length-append (take a memory) xs, length-take-le a memory fits) in
    let before : take (a + length xs) (front ++ rest) ≡ front = subst (λ (n : ℕ). take n (front ++ rest) ≡ front) len (take-append_seam front rest) in
    let after : drop (a + length xs + length ys) (front ++ rest) ≡ end =
    subst (λ (n : ℕ). drop (n + length ys) (front ++ rest) ≡ drop (length ys) rest) len (drop-append-add front rest (length ys))
    ∙ drop-drop (length ys) (a + length xs) memory in
    let place : a + length xs + length ys ≡ a + length (xs ++ ys) = omega (arith, length-append xs ys) in
    ap (λ (l : List ℕ). l ++ ys ++ drop (a + length xs + length ys) (front ++ rest)) before
    ∙ ap (λ (l : List ℕ). front ++ ys ++ l) after
    ∙ ap (λ (l : List ℕ). l ++ end) (append_assoc (take a memory) xs ys)
    ∙ ap (λ (n : ℕ). take a memory ++ (xs ++ ys) ++ drop n memory) place

-- ---- a byte that is put

pub set_over : (memory : List ℕ) (a byte : ℕ) → a < length memory → set memory a byte ≡ overwritten memory a (byte ∷ [])
set_over [] a byte lt = absurd (omega (arith, lt))
set_over (x ∷ memory) zero byte lt = refl
set_over (x ∷ memory) (suc a) byte lt =
    let place : suc a + 1 ≡ suc (a + 1) = omega arith in
    ap (λ (l : List ℕ). x ∷ l) (set_over memory a byte (omega (arith, lt)))
    ∙ ap (λ (n : ℕ). x ∷ (take a memory ++ byte ∷ [] ++ drop n (x ∷ memory))) (sym place)

-- one byte more
pub overwritten-byte : (memory : List ℕ) (a : ℕ) (bytes : List ℕ) (i : ℕ) → a + length bytes ≤ length memory → i < length bytes
    → set (overwritten memory a (take i bytes)) (a + i) (get_or bytes i 0) ≡ overwritten memory a (take (i + 1) bytes)
overwritten-byte memory a bytes i fits lt =
    let byte = get_or bytes i 0 in
    let len : length (take i bytes) ≡ i = length-take-le i bytes (omega (arith, lt)) in
    let whole = length-overwritten memory a (take i bytes) (omega (arith, len, fits, lt)) in
    let more : overwritten (overwritten memory a (take i bytes)) (a + length (take i bytes)) (byte ∷ []) ≡ overwritten memory a (take i bytes ++ byte ∷ []) =
    overwritten-more memory a (take i bytes) (byte ∷ []) (omega (arith, fits)) in
    set_over (overwritten memory a (take i bytes)) (a + i) byte (omega (arith, whole, fits, lt))
    ∙ subst (λ (n : ℕ). overwritten (overwritten memory a (take i bytes)) (a + n) (byte ∷ []) ≡ overwritten memory a (take i bytes ++ byte ∷ [])) len more
    ∙ ap (λ (l : List ℕ). overwritten memory a l) (sym (take_more bytes i 0 lt))

-- ---- a word that is put

-- a byte, and then another right after it
next_over : (memory : List ℕ) (a place : ℕ) (bytes : List ℕ) (byte : ℕ) → a + length bytes < length memory → place ≡ a + length bytes → set (overwritten memory a bytes) place byte ≡ overwritten memory a (bytes ++ byte ∷ [])
next_over memory a place bytes byte lt e =
    let whole = length-overwritten memory a bytes (omega (arith, lt)) in
    set_over (overwritten memory a bytes) place byte (omega (arith, whole, lt, e))
    ∙ ap (λ (n : ℕ). overwritten (overwritten memory a bytes) n (byte ∷ [])) e
    ∙ overwritten-more memory a bytes (byte ∷ []) (omega (arith, lt))

four_over : (memory : List ℕ) (a p q r b0 b1 b2 b3 : ℕ) → a + 4 ≤ length memory → p ≡ a + 1 → q ≡ a + 2 → r ≡ a + 3
    → set (set (set (set memory a b0) p b1) q b2) r b3 ≡ overwritten memory a (b0 ∷ b1 ∷ b2 ∷ b3 ∷ [])
four_over memory a p q r b0 b1 b2 b3 fits ep eq er =
    ap (λ (l : List ℕ). set (set (set l p b1) q b2) r b3) (set_over memory a b0 (omega (arith, fits)))
    ∙ ap (λ (l : List ℕ). set (set l q b2) r b3) (next_over memory a p (b0 ∷ []) b1 (omega (arith, fits)) ep)
    ∙ ap (λ (l : List ℕ). set l r b3) (next_over memory a q (b0 ∷ b1 ∷ []) b2 (omega (arith, fits)) eq)
    ∙ next_over memory a r (b0 ∷ b1 ∷ b2 ∷ []) b3 (omega (arith, fits)) er

pub word_over : (memory : List ℕ) (a value : ℕ) → a + 4 ≤ length memory → with_word memory a value ≡ overwritten memory a (to_be_bytes w32 value)
word_over memory a value fits =
    let b0 : value / 2 ^ 16 / 2 ^ 8 % 2 ^ 8 ≡ get_or (to_be_bytes w32 value) 0 0 = omega arith in
    let b1 : value / 2 ^ 16 % 2 ^ 8 ≡ get_or (to_be_bytes w32 value) 1 0 = omega arith in
    four_over memory a (a + 1) (a + 2) (a + 2 + 1) (value / 2 ^ 16 / 2 ^ 8 % 2 ^ 8) (value / 2 ^ 16 % 2 ^ 8) (value / 2 ^ 8 % 2 ^ 8) (value % 2 ^ 8) fits refl refl (omega arith)
    ∙ ap (λ (n : ℕ). overwritten memory a (n ∷ value / 2 ^ 16 % 2 ^ 8 ∷ value / 2 ^ 8 % 2 ^ 8 ∷ value % 2 ^ 8 ∷ [])) b0
    ∙ ap (λ (n : ℕ). overwritten memory a (get_or (to_be_bytes w32 value) 0 0 ∷ n ∷ value / 2 ^ 8 % 2 ^ 8 ∷ value % 2 ^ 8 ∷ [])) b1

pub bytes_of-append : (xs ys : List ℕ) → bytes_of (xs ++ ys) ≡ bytes_of xs ++ bytes_of ys
bytes_of-append [] ys = refl
bytes_of-append (x ∷ xs) ys =
    ap (λ (l : List ℕ). to_be_bytes w32 x ++ l) (bytes_of-append xs ys) ∙ sym (append_assoc (to_be_bytes w32 x) (bytes_of xs) (bytes_of ys))

-- one word more
pub overwritten-word : (memory : List ℕ) (a : ℕ) (words : List ℕ) (i : ℕ) → a + 4 * length words ≤ length memory → i < length words
    → with_word (overwritten memory a (bytes_of (take i words))) (a + 4 * i) (get_or words i 0) ≡ overwritten memory a (bytes_of (take (i + 1) words))
overwritten-word memory a words i fits lt =
    let word = get_or words i 0 in
    let written = overwritten memory a (bytes_of (take i words)) in
    let le : i ≤ length words = omega (arith, lt) in
    let len : length (bytes_of (take i words)) ≡ 4 * i = omega (arith, length-bytes_of (take i words), length-take-le i words le) in
    let whole = length-overwritten memory a (bytes_of (take i words)) (omega (arith, fits, len, lt)) in
    let more : overwritten written (a + length (bytes_of (take i words))) (to_be_bytes w32 word) ≡ overwritten memory a (bytes_of (take i words) ++ to_be_bytes w32 word) =
    overwritten-more memory a (bytes_of (take i words)) (to_be_bytes w32 word) (omega (arith, fits)) in
    let joined : bytes_of (take (i + 1) words) ≡ bytes_of (take i words) ++ to_be_bytes w32 word =
    ap bytes_of (take_more words i 0 lt) ∙ bytes_of-append (take i words) (word ∷ []) ∙ ap (λ (l : List ℕ). bytes_of (take i words) ++ l) (append-nil (to_be_bytes w32 word)) in
    word_over written (a + 4 * i) word (omega (arith, whole, fits, lt))
    ∙ subst (λ (n : ℕ). overwritten written (a + n) (to_be_bytes w32 word) ≡ overwritten memory a (bytes_of (take i words) ++ to_be_bytes w32 word)) len more
    ∙ ap (λ (l : List ℕ). overwritten memory a l) (sym joined)
