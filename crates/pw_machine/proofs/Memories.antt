-- The state at the start, and how long a memory is over which bytes and items are written.
use Rattle.std.proofs.Common.{ℕ, ◌+◌, ◌%◌, ◌^◌, ◌≤◌, ◌≡◌, List, [], ◌∷◌, length, refl, ap, ◌∙◌, arith}
use Rattle.std.proofs.lemmas.List.{length-replicate}
use Rattle.std.specs.Prelude.{slice_set, replicate, false, None}
use Rattle.pw_pages.proofs.Overwriting.{length-overwritten}
use Rattle.pw_value.specs.Limits.{text_start, word_limit, memory_size}
use Rattle.pw_value.specs.Rounding.{stack_start}
use Rattle.pw_image.specs.declared.image.DataItem.{DataItem}
use Rattle.pw_image.specs.Image.{AreItems, free_behind}
use Rattle.pw_machine.specs.Start.{overwritten, bytes_of, with_items, zeros, start_memory, start_core, data_start_of}
pub use Rattle.pw_pages.proofs.InWords.{length-bytes_of}

pub length-zeros : (n : ℕ) → length (zeros n) ≡ n
unfolding zeros
length-zeros n = length-replicate n 0

pub length-with_items : (memory : List ℕ) (a size free : ℕ) (items : List DataItem) → AreItems size free items → a + size ≤ length memory → length (with_items memory a items) ≡ length memory
length-with_items memory a size free [] are room = refl
length-with_items memory a size free (i ∷ items) are room =
    let same = length-overwritten memory (a + i.offset) i.bytes (omega (arith, are.1, room)) in
    length-with_items (overwritten memory (a + i.offset) i.bytes) a size (free_behind i) items are.2 (omega (arith, same, room)) ∙ same

text_and_items : (blank : List ℕ) (words : List ℕ) (size : ℕ) (items : List DataItem) → length blank ≡ memory_size → length words ≤ word_limit → data_start_of words + size ≤ memory_size → AreItems size 0 items
    → length (with_items (overwritten blank text_start (bytes_of words)) (data_start_of words) items) ≡ memory_size
text_and_items blank words size items whole few room are =
    let text = length-overwritten blank text_start (bytes_of words) (omega (arith, whole, few, length-bytes_of words)) in
    length-with_items (overwritten blank text_start (bytes_of words)) (data_start_of words) size 0 items are (omega (arith, text, whole, room)) ∙ text ∙ whole

-- the memory at the start is as long as the machine's
pub length-start_memory : (words : List ℕ) (size : ℕ) (items : List DataItem) → length words ≤ word_limit → data_start_of words + size ≤ memory_size → AreItems size 0 items → length (start_memory words items) ≡ memory_size
length-start_memory words size items few room are = text_and_items (zeros memory_size) words size items (length-zeros memory_size) few room are

-- the memory at the start, as it is made
pub start_memory_is : (blank text memory words : List ℕ) (items : List DataItem) (start : ℕ) → blank ≡ zeros memory_size → text ≡ overwritten blank text_start (bytes_of words) → memory ≡ with_items text start items → start ≡ data_start_of words → memory ≡ start_memory words items
start_memory_is blank text memory words items start b t m s =
    m
    ∙ ap (λ (l : List ℕ). with_items l start items) (t ∙ ap (λ (l : List ℕ). overwritten l text_start (bytes_of words)) b)
    ∙ ap (λ (a : ℕ). with_items (overwritten (zeros memory_size) text_start (bytes_of words)) a items) s

-- the fields of the start state, one by one
pub start_core_is : (entry : ℕ) (words : List ℕ) (size : ℕ) (items : List DataItem) (memory : List ℕ) (start stack : ℕ) → memory ≡ start_memory words items → start ≡ data_start_of words → stack ≡ stack_start (start + size) → record { registers = slice_set (replicate 32 0) 30 stack; front = entry; back = (entry + 4) % 2 ^ 32; nullify = false; shift = 0; memory = memory; text = length words; data_start = start; stopped = None } ≡ start_core entry words size items
unfolding start_core
start_core_is entry words size items memory start stack m d s =
    let top : stack ≡ stack_start (data_start_of words + size) = s ∙ ap (λ (n : ℕ). stack_start (n + size)) d in
    cc
