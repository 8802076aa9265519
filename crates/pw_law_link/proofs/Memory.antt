-- What the memory holds in which a linked program begins.
use Rattle.std.proofs.Common.{◌≡◌, ℕ, zero, suc, ◌+◌, ◌*◌, ◌≤◌, ◌<◌, ◌^◌, List, [], ◌∷◌, ◌++◌, length, get_or, sym, ap, subst, ◌∙◌, arith}
use Rattle.std.specs.List.{AllByRecursion}
use Rattle.std.proofs.Math.ListN.{get_or-append}
use Rattle.std.proofs.lemmas.List.{get_or-append-add, length-append}
use Rattle.pw_value.specs.Limits.{text_start, word_limit, memory_size}
use Rattle.pw_fields.specs.Fields.{FitsU32}
use Rattle.pw_flow.specs.declared.flow.Item.{Item}
use Rattle.pw_object.specs.declared.object.Object.{Object}
use Rattle.pw_image.specs.declared.image.DataItem.{DataItem}
use Rattle.pw_image.specs.declared.image.Memory.{Memory}
use Rattle.pw_image.specs.Image.{IsMemory, data_start}
use Rattle.pw_machine.specs.Core.{byte_at, word_at}
use Rattle.pw_machine.specs.Start.{data_start_of, start_memory, start_core, image_start, IsOutside}
use Rattle.pw_link.specs.Layout.{text_of, data_of, data_begin, pieces_of}
use Rattle.pw_link.specs.Linking.{piece_words, item_at, item_bytes, linked}
use Rattle.pw_law_link.specs.Parts.{AreLawfulParts}
use Rattle.pw_law_link.specs.Standing.{sites, StandsInText, StandsInData, ItemsStand, HasWords, HasBytes, HasItems}
use Rattle.pw_law_link.proofs.Kept.{all_by}
use Rattle.pw_law_link.proofs.Lawful.{words_length, memory_is_lawful}
use Rattle.pw_law_link.proofs.Places.{words_stand, items_stand}

-- ---- text

fits_at : (words : List ℕ) (i : ℕ) → AllByRecursion FitsU32 words → i < length words → get_or words i 0 < 2 ^ 32
fits_at [] i all lt = absurd (omega (arith, lt))
fits_at (w ∷ words) zero all lt = all.0
fits_at (w ∷ words) (suc i) all lt = fits_at words i all.1 (omega (arith, lt))

-- how the start has words, and data, as the machine's laws say
abbrev pub Words : Type 0
Words = (words : List ℕ) (items : List DataItem) (i : ℕ) → length words ≤ word_limit → i < length words → get_or words i 0 < 2 ^ 32
    → word_at (start_memory words items) (text_start + 4 * i) ≡ get_or words i 0

abbrev pub Data : Type 0
Data = (m : Memory) (before after : List DataItem) (i : DataItem) (k : ℕ) → IsMemory m → m.items ≡ before ++ i ∷ after → k < length i.bytes
    → byte_at (image_start m).memory (data_start_of m.words + i.offset + k) ≡ get_or i.bytes k 0

own_words : Words → (m : Memory) (address : ℕ) (own : List ℕ) → IsMemory m → StandsInText m.words address own → HasWords (image_start m).memory address own
unfolding start_core
own_words law m address own is stands = λ i lt.
    let before = stands.before in
    let after = stands.after in
    let place : address + 4 * i ≡ text_start + 4 * (length before + i) = omega (arith, stands.at) in
    let whole : length m.words ≡ length before + (length own + length after) = ap (λ (l : List ℕ). length l) stands.is ∙ length-append before (own ++ after) ∙ ap (λ (n : ℕ). length before + n) (length-append own after) in
    let inside : length before + i < length m.words = omega (arith, whole, lt) in
    let read : get_or m.words (length before + i) 0 ≡ get_or own i 0 =
    ap (λ (l : List ℕ). get_or l (length before + i) 0) stands.is
    ∙ get_or-append-add before (own ++ after) i 0
    ∙ get_or-append own after 0 i lt in
    ap (word_at (start_memory m.words m.items)) place
    ∙ law m.words m.items (length before + i) is.count inside (fits_at m.words (length before + i) is.words inside)
    ∙ read

pub words_held : Words → (objects : List Object) (stack : ℕ) → AreLawfulParts objects stack
    → AllByRecursion (λ p. HasWords (image_start (linked objects stack).memory).memory p.address (piece_words (sites objects stack) p)) (text_of objects)
words_held law objects stack parts =
    let m = (linked objects stack).memory in
    let is = memory_is_lawful objects stack parts in
    all_by (λ p. StandsInText m.words p.address (piece_words (sites objects stack) p)) (λ p. HasWords (image_start m).memory p.address (piece_words (sites objects stack) p)) (text_of objects)
    (λ p stands. own_words law m p.address (piece_words (sites objects stack) p) is stands)
    (words_stand objects stack)

-- ---- data

begin_is : (objects : List Object) (stack : ℕ) → data_start_of (linked objects stack).memory.words ≡ data_begin objects
unfolding linked
begin_is objects stack = ap data_start (words_length (sites objects stack) text_start (pieces_of objects))

pub items_held : Data → (objects : List Object) (stack : ℕ) → AreLawfulParts objects stack
    → AllByRecursion (HasItems objects stack (image_start (linked objects stack).memory).memory) (data_of objects)
items_held law objects stack parts =
    let m = (linked objects stack).memory in
    let is = memory_is_lawful objects stack parts in
    let begin = begin_is objects stack in
    all_by (ItemsStand objects stack m.items) (HasItems objects stack (image_start m).memory) (data_of objects)
    (λ s stands. all_by
    (λ (i : ℕ × Item). StandsInData m.items (item_at (sites objects stack).named s.offset i))
    (λ (i : ℕ × Item). HasBytes (image_start m).memory (data_begin objects + (item_at (sites objects stack).named s.offset i).offset) (item_bytes (sites objects stack).named i.1))
    s.global.items
    (λ i there k lt.
    ap (λ (n : ℕ). byte_at (image_start m).memory (n + (item_at (sites objects stack).named s.offset i).offset + k)) (sym begin)
    ∙ law m there.before there.after (item_at (sites objects stack).named s.offset i) k is there.is lt)
    stands)
    (items_stand objects stack)

abbrev pub Rest : Type 0
Rest = (m : Memory) (place : ℕ) → IsMemory m → data_start_of m.words ≤ place → place < memory_size
    → AllByRecursion (IsOutside (data_start_of m.words) place) m.items → byte_at (image_start m).memory place ≡ 0

pub rest_is_zero : Rest → (objects : List Object) (stack place : ℕ) → AreLawfulParts objects stack
    → data_begin objects ≤ place → place < memory_size → AllByRecursion (IsOutside (data_begin objects) place) (linked objects stack).memory.items
    → byte_at (image_start (linked objects stack).memory).memory place ≡ 0
rest_is_zero law objects stack place parts low high outside =
    let m = (linked objects stack).memory in
    let is = memory_is_lawful objects stack parts in
    let begin = begin_is objects stack in
    law m place is (omega (arith, begin, low)) high (subst (λ (n : ℕ). AllByRecursion (IsOutside n place) m.items) (sym begin) outside)
