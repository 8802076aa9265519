-- What stands in a memory over which items of data are written, byte by byte.
use Rattle.std.proofs.Common.{ℕ, ◌+◌, ◌-◌, ◌<◌, ◌≤◌, ◌≡◌, inl, inr, List, [], ◌∷◌, ◌++◌, length, take, drop, get_or, sym, ap, subst, ◌∙◌, refl, arith, length-append, length-drop}
use Rattle.std.proofs.lemmas.List.{take-append-drop, length-take, length-take-le, get_or-take, get_or-append-add, get_or-replicate}
use Rattle.std.proofs.Math.ListN.{get_or-append}
use Rattle.std.specs.List.{AllByRecursion}
use Rattle.pw_value.specs.Limits.{text_start, memory_size}
use Rattle.pw_image.specs.declared.image.DataItem.{DataItem}
use Rattle.pw_image.specs.declared.image.Memory.{Memory}
use Rattle.pw_image.specs.Image.{IsMemory, AreItems, free_behind}
use Rattle.pw_machine.specs.Core.{word_at}
use Rattle.pw_machine.specs.Start.{overwritten, with_items, bytes_of, zeros, data_start_of, start_memory, IsOutside}
use Rattle.pw_machine.proofs.Memories.{length-bytes_of, length-zeros}

-- ---- bytes that are written over a memory

pub length-overwritten-grows : (memory : List ℕ) (a : ℕ) (bytes : List ℕ) → length memory ≤ length (overwritten memory a bytes)
length-overwritten-grows memory a bytes =
    omega (arith, length-append (take a memory ++ bytes) (drop (a + length bytes) memory), length-append (take a memory) bytes, length-take a memory, length-drop (a + length bytes) memory)

pub byte_below : (memory : List ℕ) (a : ℕ) (bytes : List ℕ) (p : ℕ) → p < a → p < length memory → get_or (overwritten memory a bytes) p 0 ≡ get_or memory p 0
byte_below memory a bytes p below within =
    let front = take a memory in
    let rest = drop (a + length bytes) memory in
    let short : p < length front = omega (arith, length-take a memory) in
    let long : p < length (front ++ bytes) = omega (arith, length-append front bytes) in
    get_or-append (front ++ bytes) rest 0 p long ∙ get_or-append front bytes 0 p short ∙ get_or-take a memory p 0 below

pub byte_inside : (memory : List ℕ) (a : ℕ) (bytes : List ℕ) (k : ℕ) → a ≤ length memory → k < length bytes → get_or (overwritten memory a bytes) (a + k) 0 ≡ get_or bytes k 0
byte_inside memory a bytes k le within =
    let front = take a memory in
    let rest = drop (a + length bytes) memory in
    let len : length front ≡ a = length-take-le a memory le in
    let long : a + k < length (front ++ bytes) = omega (arith, length-append front bytes, len) in
    get_or-append (front ++ bytes) rest 0 (a + k) long
    ∙ subst (λ (n : ℕ). get_or (front ++ bytes) (n + k) 0 ≡ get_or bytes k 0) len (get_or-append-add front bytes k 0)

pub byte_above : (memory : List ℕ) (a : ℕ) (bytes : List ℕ) (p : ℕ) → a + length bytes ≤ p → p < length memory → get_or (overwritten memory a bytes) p 0 ≡ get_or memory p 0
byte_above memory a bytes p above within =
    let n = a + length bytes in
    let k = p - n in
    let front = take a memory ++ bytes in
    let rest = drop n memory in
    let place : n + k ≡ p = omega arith in
    let len : length front ≡ n = omega (arith, length-append (take a memory) bytes, length-take-le a memory (omega arith)) in
    let whole : length (take n memory) ≡ n = length-take-le n memory (omega arith) in
    let now : get_or (front ++ rest) (n + k) 0 ≡ get_or rest k 0 = subst (λ (m : ℕ). get_or (front ++ rest) (m + k) 0 ≡ get_or rest k 0) len (get_or-append-add front rest k 0) in
    let was : get_or (take n memory ++ rest) (n + k) 0 ≡ get_or rest k 0 = subst (λ (m : ℕ). get_or (take n memory ++ rest) (m + k) 0 ≡ get_or rest k 0) whole (get_or-append-add (take n memory) rest k 0) in
    subst (λ (q : ℕ). get_or (front ++ rest) q 0 ≡ get_or memory q 0) place
    (now ∙ sym was ∙ ap (λ (l : List ℕ). get_or l (n + k) 0) (take-append-drop n memory))

-- ---- items

-- a byte below all items
pub below_items : (memory : List ℕ) (a : ℕ) (items : List DataItem) (p : ℕ) → p < a → p < length memory → get_or (with_items memory a items) p 0 ≡ get_or memory p 0
below_items memory a [] p below within = refl
below_items memory a (i ∷ items) p below within =
    below_items (overwritten memory (a + i.offset) i.bytes) a items p below (omega (arith, length-overwritten-grows memory (a + i.offset) i.bytes))
    ∙ byte_below memory (a + i.offset) i.bytes p (omega arith) within

pub word_below_items : (memory : List ℕ) (a : ℕ) (items : List DataItem) (k : ℕ) → k + 4 ≤ a → k + 4 ≤ length memory → word_at (with_items memory a items) k ≡ word_at memory k
word_below_items memory a items k below within =
    let all = with_items memory a items in
    let b0 : get_or all k 0 ≡ get_or memory k 0 = below_items memory a items k (omega arith) (omega arith) in
    let b1 : get_or all (k + 1) 0 ≡ get_or memory (k + 1) 0 = below_items memory a items (k + 1) (omega arith) (omega arith) in
    let b2 : get_or all (k + 2) 0 ≡ get_or memory (k + 2) 0 = below_items memory a items (k + 2) (omega arith) (omega arith) in
    let b3 : get_or all (k + 2 + 1) 0 ≡ get_or memory (k + 2 + 1) 0 = below_items memory a items (k + 2 + 1) (omega arith) (omega arith) in
    cc

-- a byte outside each item
pub outside_items : (memory : List ℕ) (a : ℕ) (items : List DataItem) (p : ℕ) → p < length memory → AllByRecursion (IsOutside a p) items → get_or (with_items memory a items) p 0 ≡ get_or memory p 0
outside_items memory a [] p within outside = refl
outside_items memory a (i ∷ items) p within outside =
    let start = a + i.offset in
    let next = overwritten memory start i.bytes in
    outside_items next a items p (omega (arith, length-overwritten-grows memory start i.bytes)) outside.1
    ∙ elim outside.0 [ inl low ↦ byte_below memory start i.bytes p low within | inr high ↦ byte_above memory start i.bytes p high within ]

-- a byte below the least offset that an item may have
before_items : (memory : List ℕ) (a size free : ℕ) (items : List DataItem) (p : ℕ) → AreItems size free items → p < a + free → p < length memory → get_or (with_items memory a items) p 0 ≡ get_or memory p 0
before_items memory a size free [] p are low within = refl
before_items memory a size free (i ∷ items) p are low within =
    before_items (overwritten memory (a + i.offset) i.bytes) a size (free_behind i) items p are.2 (omega (arith, are.0)) (omega (arith, length-overwritten-grows memory (a + i.offset) i.bytes))
    ∙ byte_below memory (a + i.offset) i.bytes p (omega (arith, are.0)) within

-- a byte inside an item
pub inside_items : (memory : List ℕ) (a size free : ℕ) (before after : List DataItem) (i : DataItem) (k : ℕ) → AreItems size free (before ++ i ∷ after) → a + size ≤ length memory → k < length i.bytes → get_or (with_items memory a (before ++ i ∷ after)) (a + i.offset + k) 0 ≡ get_or i.bytes k 0
inside_items memory a size free [] after i k are room within =
    let start = a + i.offset in
    let grows = length-overwritten-grows memory start i.bytes in
    before_items (overwritten memory start i.bytes) a size (free_behind i) after (start + k) are.2 (omega arith) (omega (arith, are.1, grows))
    ∙ byte_inside memory start i.bytes k (omega (arith, are.1)) within
inside_items memory a size free (j ∷ before) after i k are room within =
    inside_items (overwritten memory (a + j.offset) j.bytes) a size (free_behind j) before after i k are.2 (omega (arith, length-overwritten-grows memory (a + j.offset) j.bytes)) within

-- ---- the start of an image

zero_at : (n p : ℕ) → p < n → get_or (zeros n) p 0 ≡ 0
unfolding zeros
zero_at n p lt = get_or-replicate n p 0 0 lt

item_placed : (blank : List ℕ) (m : Memory) (before after : List DataItem) (i : DataItem) (k : ℕ) → length blank ≡ memory_size → IsMemory m → m.items ≡ before ++ i ∷ after → k < length i.bytes
    → get_or (with_items (overwritten blank text_start (bytes_of m.words)) (data_start_of m.words) m.items) (data_start_of m.words + i.offset + k) 0 ≡ get_or i.bytes k 0
item_placed blank m before after i k size is same within =
    let text = overwritten blank text_start (bytes_of m.words) in
    let a = data_start_of m.words in
    let room : a + m.data_size ≤ length text = omega (arith, is.data_fits, is.stack_end, length-overwritten-grows blank text_start (bytes_of m.words)) in
    let are : AreItems m.data_size 0 (before ++ i ∷ after) = subst (AreItems m.data_size 0) same is.items in
    subst (λ (items : List DataItem). get_or (with_items text a items) (a + i.offset + k) 0 ≡ get_or i.bytes k 0) (sym same)
    (inside_items text a m.data_size 0 before after i k are room within)

-- the bytes of an item stand at its offset
pub item_at_start : (m : Memory) (before after : List DataItem) (i : DataItem) (k : ℕ) → IsMemory m → m.items ≡ before ++ i ∷ after → k < length i.bytes
    → get_or (start_memory m.words m.items) (data_start_of m.words + i.offset + k) 0 ≡ get_or i.bytes k 0
item_at_start m before after i k is same within = item_placed (zeros memory_size) m before after i k (length-zeros memory_size) is same within

other_placed : (blank : List ℕ) (m : Memory) (p : ℕ) → length blank ≡ memory_size → get_or blank p 0 ≡ 0 → IsMemory m → data_start_of m.words ≤ p → p < memory_size → AllByRecursion (IsOutside (data_start_of m.words) p) m.items
    → get_or (with_items (overwritten blank text_start (bytes_of m.words)) (data_start_of m.words) m.items) p 0 ≡ 0
other_placed blank m p size zero is above within outside =
    let text = overwritten blank text_start (bytes_of m.words) in
    outside_items text (data_start_of m.words) m.items p (omega (arith, length-overwritten-grows blank text_start (bytes_of m.words))) outside
    ∙ byte_above blank text_start (bytes_of m.words) p (omega (arith, length-bytes_of m.words)) (omega arith)
    ∙ zero

-- any other byte of the data is 0
pub other_at_start : (m : Memory) (p : ℕ) → IsMemory m → data_start_of m.words ≤ p → p < memory_size → AllByRecursion (IsOutside (data_start_of m.words) p) m.items → get_or (start_memory m.words m.items) p 0 ≡ 0
other_at_start m p is above within outside = other_placed (zeros memory_size) m p (length-zeros memory_size) (zero_at memory_size p within) is above within outside
