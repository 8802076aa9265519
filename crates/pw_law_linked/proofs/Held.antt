-- In the memory in which the machine starts the words of each piece of the text stand at its place; and the start is lawful.
use Rattle.std.specs.Prelude.{ℕ, zero, suc, ◌≡◌, ◌+◌, ◌*◌, ◌^◌, ◌<◌, ◌≤◌, List, [], ◌∷◌, ◌++◌, length, slice_index}
use Rattle.std.specs.List.{AllByRecursion}
use Rattle.std.proofs.Common.{arith, ap, get_or, ◌∙◌}
use Rattle.std.proofs.Math.ListN.{get_or-append}
use Rattle.std.proofs.lemmas.List.{get_or-append-add, length-append}
use Rattle.pw_value.specs.Limits.{text_start, word_limit}
use Rattle.pw_object.specs.declared.object.Object.{Object}
use Rattle.pw_image.specs.declared.image.DataItem.{DataItem}
use Rattle.pw_image.specs.declared.image.Memory.{Memory}
use Rattle.pw_image.specs.Image.{IsMemory}
use Rattle.pw_alloc.specs.declared.located.Located.{Located}
use Rattle.pw_machine.specs.Core.{word_at}
use Rattle.pw_machine.specs.Start.{start_memory, start_core, image_start}
use Rattle.pw_link.specs.Layout.{Placed, text_of}
use Rattle.pw_link.specs.Linking.{piece_words, linked}
use Rattle.pw_law_link.specs.Standing.{sites, StandsInText, HasWords}
use Rattle.pw_run_languages.specs.Programs as programs
use Rattle.pw_run_languages.specs.Programs.{Program}
use Rattle.pw_law_code.specs.Lawful.{AreBytes, IsLawful, IsLawfulCore}
use Rattle.pw_law_linked.specs.Settings.{linked_setting}
use Rattle.pw_law_linked.specs.Standing.{HasItsWords}

fits_at : (P : ℕ → Type 0) (words : List ℕ) (i : ℕ) → AllByRecursion P words → i < length words → P (slice_index words i)
fits_at P [] i all lt = absurd (omega (arith, lt))
fits_at P (w ∷ words) zero all lt = all.0
fits_at P (w ∷ words) (suc i) all lt = fits_at P words i all.1 (omega (arith, lt))

-- how the start has the words of its text, as the machine's law says
abbrev pub Words : Type 0
Words = (words : List ℕ) (items : List DataItem) (i : ℕ) → length words ≤ word_limit → i < length words → slice_index words i < 2 ^ 32
    → word_at (start_memory words items) (text_start + 4 * i) ≡ slice_index words i

own_words : Words → (m : Memory) (address : ℕ) (own : List ℕ) → IsMemory m → StandsInText m.words address own → HasWords (image_start m).memory address own
unfolding start_core
own_words law m address own is stands = λ i lt.
    let before = stands.before in
    let after = stands.after in
    let place : address + 4 * i ≡ text_start + 4 * (length before + i) = omega (arith, stands.at) in
    let whole : length m.words ≡ length before + (length own + length after) = ap (λ (l : List ℕ). length l) stands.is ∙ length-append before (own ++ after) ∙ ap (λ (n : ℕ). length before + n) (length-append own after) in
    let inside : length before + i < length m.words = omega (arith, whole, lt) in
    let read : get_or m.words (length before + i) 0 ≡ get_or own i 0 =
    ap (λ (l : List ℕ). get_or l (length before + i) 0) stands.is
    ∙ get_or-append-add before (own ++ after) i 0
    ∙ get_or-append own after 0 i lt in
    ap (word_at (start_memory m.words m.items)) place
    ∙ law m.words m.items (length before + i) is.count inside (fits_at (λ w. w < 2 ^ 32) m.words (length before + i) is.words inside)
    ∙ read

each_held : Words → (m : Memory) (objects : List Object) (stack : ℕ) (qs : List Placed) → IsMemory m → AllByRecursion (λ q. StandsInText m.words q.address (piece_words (sites objects stack) q)) qs
    → AllByRecursion (HasItsWords (image_start m).memory objects stack) qs
each_held law m objects stack [] is stands = tt
each_held law m objects stack (q ∷ qs) is stands = (own_words law m q.address (piece_words (sites objects stack) q) is stands.0, each_held law m objects stack qs is stands.1)

abbrev pub StandInText : Type 0
StandInText = (objects : List Object) (stack : ℕ) → AllByRecursion (λ q. StandsInText (linked objects stack).memory.words q.address (piece_words (sites objects stack) q)) (text_of objects)

pub words_held : Words → StandInText → (p : Program) (functions : List Located) (objects : List Object) (input : List ℕ) → IsMemory (linked objects p.stack).memory
    → AllByRecursion (HasItsWords (linked_setting p functions objects input).start.core.memory objects p.stack) (text_of objects)
words_held law stand p functions objects input is = each_held law (linked objects p.stack).memory objects p.stack (text_of objects) is (stand objects p.stack)

-- ---- the start

pub bytes_at : (xs : List ℕ) → programs.AreBytes xs → AreBytes xs
bytes_at [] h i = omega arith
bytes_at (x ∷ xs) h zero = let first = h.0 in omega (arith, first)
bytes_at (x ∷ xs) h (suc i) = bytes_at xs h.1 i

abbrev pub StartsLawfully : Type 0
StartsLawfully = (m : Memory) → IsMemory m → AllByRecursion (λ i. AreBytes i.bytes) m.items → IsLawfulCore (image_start m)

pub start_lawful : StartsLawfully → (p : Program) (functions : List Located) (objects : List Object) (input : List ℕ) → IsMemory (linked objects p.stack).memory
    → AllByRecursion (λ i. AreBytes i.bytes) (linked objects p.stack).memory.items → programs.AreBytes input → IsLawful (linked_setting p functions objects input).start
start_lawful starts p functions objects input is bytes given = record { core = starts (linked objects p.stack).memory is bytes; input = bytes_at input given }
