-- Words that stand in a memory.
use Rattle.std.proofs.Common.{ℕ, zero, suc, ◌+◌, ◌*◌, ◌^◌, ◌<◌, ◌≤◌, ◌≡◌, List, [], ◌∷◌, ◌++◌, length, take, drop, get_or, refl, sym, ap, subst, ◌∙◌, arith, length-append}
use Rattle.std.proofs.lemmas.List.{take-append-drop, length-take-le, get_or-append-add}
use Rattle.std.proofs.Math.ListN.{get_or-append}
use Rattle.std.specs.Int.{to_be_bytes, w32}
use Rattle.pw_value.specs.Limits.{text_start, word_limit, memory_size}
use Rattle.pw_machine.specs.Core.{word_at}
use Rattle.pw_image.specs.declared.image.DataItem.{DataItem}
use Rattle.pw_machine.specs.Start.{overwritten, with_items, bytes_of, start_memory, zeros, data_start_of}
use Rattle.pw_machine.proofs.Data.{word_below_items}
use Rattle.pw_machine.proofs.Memories.{length-bytes_of, length-zeros}
pub use Rattle.pw_pages.proofs.Overwriting.{length-overwritten}

pub word_at_front : (xs ys : List ℕ) (k : ℕ) → k + 4 ≤ length xs → word_at (xs ++ ys) k ≡ word_at xs k
word_at_front xs ys k fits =
    let a : get_or (xs ++ ys) k 0 ≡ get_or xs k 0 = get_or-append xs ys 0 k (omega arith) in
    let b : get_or (xs ++ ys) (k + 1) 0 ≡ get_or xs (k + 1) 0 = get_or-append xs ys 0 (k + 1) (omega arith) in
    let c : get_or (xs ++ ys) (k + 2) 0 ≡ get_or xs (k + 2) 0 = get_or-append xs ys 0 (k + 2) (omega arith) in
    let d : get_or (xs ++ ys) (k + 2 + 1) 0 ≡ get_or xs (k + 2 + 1) 0 = get_or-append xs ys 0 (k + 2 + 1) (omega arith) in
    cc

pub word_at_back : (xs ys : List ℕ) (k : ℕ) → word_at (xs ++ ys) (length xs + k) ≡ word_at ys k
word_at_back xs ys k =
    let n = length xs in
    let at : (j i : ℕ) → n + j ≡ i → get_or (xs ++ ys) i 0 ≡ get_or ys j 0 =
    λ j i e. subst (λ (m : ℕ). get_or (xs ++ ys) m 0 ≡ get_or ys j 0) e (get_or-append-add xs ys j 0) in
    let a : get_or (xs ++ ys) (n + k) 0 ≡ get_or ys k 0 = at k (n + k) refl in
    let b : get_or (xs ++ ys) (n + k + 1) 0 ≡ get_or ys (k + 1) 0 = at (k + 1) (n + k + 1) (omega arith) in
    let c : get_or (xs ++ ys) (n + k + 2) 0 ≡ get_or ys (k + 2) 0 = at (k + 2) (n + k + 2) (omega arith) in
    let d : get_or (xs ++ ys) (n + k + 2 + 1) 0 ≡ get_or ys (k + 2 + 1) 0 = at (k + 2 + 1) (n + k + 2 + 1) (omega arith) in
    cc

-- a word among the bytes that were written
pub word_at_inside : (memory : List ℕ) (a : ℕ) (bytes : List ℕ) (k : ℕ) → a ≤ length memory → k + 4 ≤ length bytes → word_at (overwritten memory a bytes) (a + k) ≡ word_at bytes k
word_at_inside memory a bytes k le fits =
    let front = take a memory in
    let rest = drop (a + length bytes) memory in
    let len : length front ≡ a = length-take-le a memory le in
    word_at_front (front ++ bytes) rest (a + k) (omega (arith, length-append front bytes, len))
    ∙ subst (λ (n : ℕ). word_at (front ++ bytes) (n + k) ≡ word_at bytes k) len (word_at_back front bytes k)

-- a word below the bytes that were written
pub word_at_before : (memory : List ℕ) (a : ℕ) (bytes : List ℕ) (k : ℕ) → a ≤ length memory → k + 4 ≤ a → word_at (overwritten memory a bytes) k ≡ word_at memory k
word_at_before memory a bytes k le fits =
    let front = take a memory in
    let rest = drop (a + length bytes) memory in
    let len : length front ≡ a = length-take-le a memory le in
    let short : k + 4 ≤ length front = omega (arith, len) in
    word_at_front (front ++ bytes) rest k (omega (arith, length-append front bytes, len))
    ∙ word_at_front front bytes k short
    ∙ sym (word_at_front front (drop a memory) k short)
    ∙ ap (λ (l : List ℕ). word_at l k) (take-append-drop a memory)

-- a word above the bytes that were written
pub word_at_after : (memory : List ℕ) (a : ℕ) (bytes : List ℕ) (k : ℕ) → a + length bytes ≤ length memory → word_at (overwritten memory a bytes) (a + length bytes + k) ≡ word_at memory (a + length bytes + k)
word_at_after memory a bytes k fits =
    let n = a + length bytes in
    let le : a ≤ length memory = omega arith in
    let front = take a memory ++ bytes in
    let rest = drop n memory in
    let len : length front ≡ n = omega (arith, length-append (take a memory) bytes, length-take-le a memory le) in
    let whole : length (take n memory) ≡ n = length-take-le n memory fits in
    subst (λ (m : ℕ). word_at (front ++ rest) (m + k) ≡ word_at rest k) len (word_at_back front rest k)
    ∙ sym (subst (λ (m : ℕ). word_at (take n memory ++ rest) (m + k) ≡ word_at rest k) whole (word_at_back (take n memory) rest k))
    ∙ ap (λ (l : List ℕ). word_at l (n + k)) (take-append-drop n memory)

-- the bytes of a word make up the word
pub word_at_bytes : (word : ℕ) (rest : List ℕ) → word < 2 ^ 32 → word_at (to_be_bytes w32 word ++ rest) 0 ≡ word
word_at_bytes word rest small = omega arith

pub word_at_bytes_of : (words : List ℕ) (i : ℕ) → i < length words → get_or words i 0 < 2 ^ 32 → word_at (bytes_of words) (4 * i) ≡ get_or words i 0
word_at_bytes_of [] i lt small = absurd (omega arith)
word_at_bytes_of (word ∷ words) zero lt small = word_at_bytes word (bytes_of words) small
word_at_bytes_of (word ∷ words) (suc i) lt small =
    let place : 4 + 4 * i ≡ 4 * suc i = omega arith in
    let less : i < length words = omega arith in
    subst (λ (n : ℕ). word_at (to_be_bytes w32 word ++ bytes_of words) n ≡ get_or words i 0) place
    (word_at_back (to_be_bytes w32 word) (bytes_of words) (4 * i) ∙ word_at_bytes_of words i less small)

placed : (words : List ℕ) (items : List DataItem) (i : ℕ) (memory : List ℕ) → length memory ≡ memory_size → length words ≤ word_limit → i < length words → get_or words i 0 < 2 ^ 32 → word_at (with_items (overwritten memory text_start (bytes_of words)) (data_start_of words) items) (text_start + 4 * i) ≡ get_or words i 0
placed words items i memory size few lt small =
    let len : length (bytes_of words) ≡ 4 * length words = length-bytes_of words in
    let text = overwritten memory text_start (bytes_of words) in
    let kept : length text ≡ length memory = length-overwritten memory text_start (bytes_of words) (omega (arith, len)) in
    let above : text_start + 4 * i + 4 ≤ data_start_of words = omega arith in
    let low : text_start ≤ length memory = omega arith in
    word_below_items text (data_start_of words) items (text_start + 4 * i) above (omega (arith, kept))
    ∙ word_at_inside memory text_start (bytes_of words) (4 * i) low (omega (arith, len))
    ∙ word_at_bytes_of words i lt small

-- the words of a program stand in its memory from 4096 on
pub word_at_start : (words : List ℕ) (items : List DataItem) (i : ℕ) → length words ≤ word_limit → i < length words → get_or words i 0 < 2 ^ 32 → word_at (start_memory words items) (text_start + 4 * i) ≡ get_or words i 0
word_at_start words items i few lt small = placed words items i (zeros memory_size) (length-zeros memory_size) few lt small
