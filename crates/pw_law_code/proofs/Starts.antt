-- The program of an image starts in a lawful state.
use Rattle.std.proofs.Common.{ℕ, zero, suc, ◌≡◌, ◌+◌, ◌^◌, ◌<◌, ◌≤◌, List, [], ◌∷◌, ◌++◌, length, take, drop, get_or, set, refl, sym, subst, ◌∙◌, arith, length-set}
use Rattle.std.specs.Prelude.{replicate}
use Rattle.std.specs.Int.{to_be_bytes, w32}
use Rattle.pw_value.specs.Limits.{text_start, memory_size}
use Rattle.pw_image.specs.declared.image.DataItem.{DataItem}
use Rattle.pw_image.specs.declared.image.Memory.{Memory}
use Rattle.pw_image.specs.Image.{IsMemory, AreItems, free_behind}
use Rattle.pw_machine.specs.Start.{zeros, overwritten, with_items, bytes_of, stack_start_of, data_start_of, start_core, image_start}
use Rattle.pw_machine.proofs.Memories.{length-bytes_of}
use Rattle.pw_law_code.specs.Lawful.{AreBytes, IsLawfulCore}
use Rattle.std.specs.List.{AllByRecursion}
use Rattle.std.proofs.lemmas.List.{length-replicate}
use Rattle.pw_machine.proofs.Loaded.{length-overwritten}
use Rattle.pw_law_code.proofs.StepLaws.{set_bound}
use Rattle.pw_law_code.proofs.RunLaws.{both_bytes}

zero_at : (n k : ℕ) → get_or {A = ℕ} (replicate n 0) k 0 ≡ 0
zero_at zero k = refl
zero_at (suc n) zero = refl
zero_at (suc n) (suc k) = zero_at n k

length-zeros : (n : ℕ) → length (zeros n) ≡ n
unfolding zeros
length-zeros n = length-replicate n 0

-- ---- bytes

none : AreBytes []
none i = omega arith

taken : (n : ℕ) (xs : List ℕ) → AreBytes xs → AreBytes (take n xs)
taken zero xs bytes i = omega arith
taken (suc n) [] bytes i = omega arith
taken (suc n) (x ∷ xs) bytes zero = bytes 0
taken (suc n) (x ∷ xs) bytes (suc i) = taken n xs (λ k. bytes (suc k)) i

dropped : (n : ℕ) (xs : List ℕ) → AreBytes xs → AreBytes (drop n xs)
dropped zero xs bytes = bytes
dropped (suc n) [] bytes = none
dropped (suc n) (x ∷ xs) bytes = dropped n xs (λ k. bytes (suc k))

overwritten_bytes : (memory : List ℕ) (a : ℕ) (bytes : List ℕ) → AreBytes memory → AreBytes bytes → AreBytes (overwritten memory a bytes)
overwritten_bytes memory a bytes one two =
    both_bytes (take a memory ++ bytes) (drop (a + length bytes) memory) (both_bytes (take a memory) bytes (taken a memory one) two) (dropped (a + length bytes) memory one)

items_bytes : (memory : List ℕ) (a : ℕ) (items : List DataItem) → AreBytes memory → AllByRecursion (λ i. AreBytes i.bytes) items → AreBytes (with_items memory a items)
items_bytes memory a [] one all = one
items_bytes memory a (i ∷ items) one all = items_bytes (overwritten memory (a + i.offset) i.bytes) a items (overwritten_bytes memory (a + i.offset) i.bytes one all.0) all.1

four_bytes : (word : ℕ) → AreBytes (to_be_bytes w32 word)
four_bytes word zero = omega arith
four_bytes word (suc zero) = omega arith
four_bytes word (suc (suc zero)) = omega arith
four_bytes word (suc (suc (suc zero))) = omega arith
four_bytes word (suc (suc (suc (suc i)))) = omega arith

words_bytes : (words : List ℕ) → AreBytes (bytes_of words)
words_bytes [] = none
words_bytes (word ∷ words) = both_bytes (to_be_bytes w32 word) (bytes_of words) (four_bytes word) (words_bytes words)

zeros_bytes : (n : ℕ) → AreBytes (zeros n)
unfolding zeros
zeros_bytes n i = subst (λ (k : ℕ). k < 2 ^ 8) (sym (zero_at n i)) (omega arith)

start_bytes : (blank words : List ℕ) (items : List DataItem) → AreBytes blank → AllByRecursion (λ i. AreBytes i.bytes) items → AreBytes (with_items (overwritten blank text_start (bytes_of words)) (data_start_of words) items)
start_bytes blank words items one all = items_bytes (overwritten blank text_start (bytes_of words)) (data_start_of words) items (overwritten_bytes blank text_start (bytes_of words) one (words_bytes words)) all

-- ---- sizes

items_size : (memory : List ℕ) (a size free : ℕ) (items : List DataItem) → a + size ≤ length memory → AreItems size free items → length (with_items memory a items) ≡ length memory
items_size memory a size free [] room are = refl
items_size memory a size free (i ∷ items) room are =
    let one : length (overwritten memory (a + i.offset) i.bytes) ≡ length memory = length-overwritten memory (a + i.offset) i.bytes (omega (arith, are.1)) in
    items_size (overwritten memory (a + i.offset) i.bytes) a size (free_behind i) items (omega (arith, one)) are.2 ∙ one

start_size : (blank : List ℕ) (m : Memory) → length blank ≡ memory_size → IsMemory m → length (with_items (overwritten blank text_start (bytes_of m.words)) (data_start_of m.words) m.items) ≡ memory_size
start_size blank m size is =
    let text : length (overwritten blank text_start (bytes_of m.words)) ≡ length blank =
    length-overwritten blank text_start (bytes_of m.words) (omega (arith, length-bytes_of m.words, is.count, size)) in
    items_size (overwritten blank text_start (bytes_of m.words)) (data_start_of m.words) m.data_size 0 m.items (omega (arith, text, size, is.data_fits, is.stack_end)) is.items ∙ text ∙ size

-- ---- the start

registers_start : (stack entry : ℕ) → stack < 2 ^ 32 → (r : ℕ) → get_or (set (replicate 32 0) 30 stack) r 0 < 2 ^ 32
registers_start stack entry small r = set_bound (replicate 32 0) 30 stack (2 ^ 32) r (λ k. subst (λ (n : ℕ). n < 2 ^ 32) (sym (zero_at 32 k)) (omega arith)) small

pub starts_lawful : (m : Memory) → IsMemory m → AllByRecursion (λ i. AreBytes i.bytes) m.items → IsLawfulCore (image_start m)
unfolding start_core
starts_lawful m is all =
    let stack : stack_start_of m.words m.data_size < 2 ^ 32 = omega (arith, is.data_fits, is.stack_end) in
    record {
      registers = record {
        count = length-set (replicate 32 0) 30 (stack_start_of m.words m.data_size);
        words = registers_start (stack_start_of m.words m.data_size) m.entry stack;
        zero = refl;
        front = omega (arith, is.entry.within, is.count);
        back = omega arith;
        shift = omega arith;
      };
      memory = record {
        size = start_size (zeros memory_size) m (length-zeros memory_size) is;
        bytes = start_bytes (zeros memory_size) m.words m.items (zeros_bytes memory_size) all;
        text = is.count;
        data_from = refl;
      };
    }
