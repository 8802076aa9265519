-- The data of a linked program's image are of bytes, and are those that the lines start with.
use Rattle.std.specs.Prelude.{ℕ, zero, suc, ◌≡◌, ◌+◌, ◌%◌, ◌^◌, ◌<◌, ◌≤◌, max, List, [], ◌∷◌, ◌++◌, map, length}
use Rattle.std.specs.List.{AllByRecursion, flat_map, sum_by}
use Rattle.std.specs.Int.{to_be_bytes, w32}
use Rattle.std.proofs.Common.{arith, subst, sym, ap, refl, ◌∙◌, inl, inr}
use Rattle.std.proofs.lemmas.Bool.{cases_lt}
use Rattle.std.proofs.lemmas.List.{get_or_past}
use Rattle.std.proofs.lemmas.List.Sums.{sum_by-cons}
use Rattle.pw_value.specs.Limits.{memory_size}
use Rattle.pw_flow.specs.declared.flow.Item.{Item}
use Rattle.pw_flow.specs.declared.flow.Item.TheVariants.{Bytes, Address}
use Rattle.pw_flow.specs.declared.flow.FlowGlobal.{FlowGlobal}
use Rattle.pw_flow.specs.ValidFlow.{AreItems, item_size, IsGlobal, global_room}
use Rattle.pw_object.specs.declared.object.Object.{Object}
use Rattle.pw_alloc.specs.declared.located.Located.{Located}
use Rattle.pw_image.specs.declared.image.DataItem.{DataItem}
use Rattle.pw_image.specs.declared.image.Memory.{Memory}
use Rattle.pw_image.specs.Image.{IsMemory, data_start}
use Rattle.pw_machine.specs.Core.{byte_at}
use Rattle.pw_machine.specs.Start.{data_start_of, start_memory, start_core, image_start, IsOutside}
use Rattle.pw_link.specs.Layout as layout
use Rattle.pw_link.specs.Layout.{standing_from, data_of, data_begin, data_size, address_in}
use Rattle.pw_link.specs.Linking as linking
use Rattle.pw_link.specs.Linking.{item_at, items_of, linked}
use Rattle.pw_run_languages.specs.Programs.{Program, globals_of}
use Rattle.pw_run_languages.specs.LawfulPrograms.{IsProgram, IsItem}
use Rattle.pw_run_languages.specs.Addresses.{Addresses}
use Rattle.pw_run_languages.specs.LineRun as lines
use Rattle.pw_run_languages.specs.LineRun.{with_bytes, with_globals}
use Rattle.pw_run_languages.specs.LinkingLaws.{AreObjectsOf}
use Rattle.pw_law_code.specs.Lawful.{AreBytes}
use Rattle.pw_law_link_run.specs.Starting.{HasData}
use Rattle.pw_law_linked.specs.Settings.{linked_setting}
use Rattle.pw_law_linked.proofs.Text.{OrderStays}
use Rattle.pw_law_linked.proofs.Addresses.{sites_of, address_is}
use Rattle.pw_law_linked.proofs.Spans.{words_count, each_global}
use Rattle.pw_law_linked.proofs.Globals.{HasItsAddress, globals_are}
use Rattle.pw_law_linked.proofs.Held.{StartsLawfully, bytes_at}
use Rattle.pw_law_linked.proofs.Written.{data_written, Agrees, items_agree}

-- ---- the machine's memory at its start

-- how the start has zeros outside the items, as the machine's law says
abbrev pub OtherwiseZero : Type 0
OtherwiseZero = (m : Memory) (place : ℕ) → IsMemory m → data_start_of m.words ≤ place → place < memory_size
    → AllByRecursion (IsOutside (data_start_of m.words) place) m.items → byte_at (image_start m).memory place ≡ 0

abbrev without_data : Memory → Memory
without_data m = record m { items = [] }

lawful_without : (m : Memory) → IsMemory m → IsMemory (without_data m)
lawful_without m is = record {
  entry = is.entry;
  stack = is.stack;
  stack_end = is.stack_end;
  count = is.count;
  words = is.words;
  data_fits = is.data_fits;
  items = tt;
}

memory_without : (m : Memory) → (image_start (without_data m)).memory ≡ start_memory m.words []
unfolding start_core
memory_without m = refl

blank_size : StartsLawfully → (m : Memory) → IsMemory m → length (start_memory m.words []) ≡ memory_size
blank_size starts m is = ap (λ (bytes : List ℕ). length bytes) (sym (memory_without m)) ∙ (starts (without_data m) (lawful_without m is) tt).memory.size

-- without items all from the beginning of the data on is 0
blank_agrees : OtherwiseZero → StartsLawfully → (m : Memory) → IsMemory m → Agrees (data_start_of m.words) (λ a. 0) (start_memory m.words [])
blank_agrees otherwise starts m is place le = elim (cases_lt place memory_size) [
  | inl inside ↦ sym (ap (λ (bytes : List ℕ). byte_at bytes place) (sym (memory_without m)) ∙ otherwise (without_data m) place (lawful_without m is) le inside tt)
  | inr past ↦ sym (get_or_past (start_memory m.words []) place 0 (let size = blank_size starts m is in omega (arith, size, past)))
]

data_agree : OtherwiseZero → StartsLawfully → (m : Memory) → IsMemory m
    → Agrees (data_start_of m.words) (data_written (data_start_of m.words) m.items (λ a. 0)) (start_memory m.words m.items)
data_agree otherwise starts m is =
    let begin = data_start_of m.words in
    let blank = start_memory m.words [] in
    let size = blank_size starts m is in
    let fits = is.data_fits in
    let end = is.stack_end in
    items_agree begin begin m.data_size 0 m.items (λ a. 0) blank is.items (omega (arith, size, fits, end)) (blank_agrees otherwise starts m is)

-- ---- the memory of the lines at their start

written_joined : (at : ℕ) (xs ys : List DataItem) (f : ℕ → ℕ) → data_written at (xs ++ ys) f ≡ data_written at ys (data_written at xs f)
written_joined at [] ys f = refl
written_joined at (x ∷ xs) ys f = written_joined at xs ys (with_bytes (at + x.offset) x.bytes f)

-- an item has the linker's bytes
abbrev SameBytes : Addresses → List (List ℕ × ℕ) → Type 0
SameBytes w named = (i : Item) → lines.item_bytes w i ≡ linking.item_bytes named i

object_written : (w : Addresses) (named : List (List ℕ × ℕ)) (begin offset a size free : ℕ) (items : List (ℕ × Item)) (f : ℕ → ℕ) → a ≡ begin + offset → offset + size < 2 ^ 32
    → AreItems size free items → SameBytes w named → lines.with_items w a items f ≡ data_written begin (map (item_at named offset) items) f
object_written w named begin offset a size free [] f at small are same = refl
object_written w named begin offset a size free (i ∷ items) f at small are same =
    let within = are.0.1 in
    let place : a + i.0 ≡ begin + (offset + i.0) % 2 ^ 32 = omega (arith, at, small, within) in
    (λ j. lines.with_items w a items (with_bytes (place j) (same i.1 j) f))
    ∙ object_written w named begin offset a size (i.0 + max 1 (item_size i.1)) items (with_bytes (begin + (offset + i.0) % 2 ^ 32) (linking.item_bytes named i.1) f) at small are.1 same

globals_written : (w : Addresses) (named : List (List ℕ × ℕ)) (begin at end : ℕ) (gs : List FlowGlobal) (f : ℕ → ℕ) → AllByRecursion (λ s. w.named s.global.name ≡ begin + s.offset) (standing_from at gs)
    → AllByRecursion IsGlobal gs → at + sum_by global_room gs ≤ end → end < 2 ^ 32 → SameBytes w named → with_globals w gs f ≡ data_written begin (flat_map (items_of named) (standing_from at gs)) f
globals_written w named begin at end [] f there all fits small same = refl
globals_written w named begin at end (g ∷ gs) f there all fits small same =
    let count = sum_by-cons global_room g gs in
    let own = map (item_at named at) g.items in
    let rest = flat_map (items_of named) (standing_from (at + global_room g) gs) in
    ap (λ (memory : ℕ → ℕ). with_globals w gs memory)
    (object_written w named begin at (w.named g.name) g.size 0 g.items f there.0 (omega (arith, count, fits, small)) all.0.items same)
    ∙ (globals_written w named begin (at + global_room g) end gs (data_written begin own f) there.1 all.1 (omega (arith, count, fits)) small same
    ∙ sym (written_joined begin own rest f))

same_bytes : (p : Program) (functions : List Located) (objects : List Object) (input : List ℕ) → SameBytes (linked_setting p functions objects input).addresses (sites_of objects)
same_bytes p functions objects input (Bytes bytes) = refl
same_bytes p functions objects input (Address name n) = ap (λ (a : ℕ). to_be_bytes w32 ((a + n) % 2 ^ 32)) (address_is objects p.stack name)

program_written : (p : Program) (functions : List Located) (objects : List Object) (input : List ℕ) → layout.globals_of objects ≡ globals_of p → AllByRecursion (HasItsAddress objects p.stack) (data_of objects)
    → AllByRecursion IsGlobal (layout.globals_of objects) → data_size objects < 2 ^ 32
    → with_globals (linked_setting p functions objects input).addresses (globals_of p) (λ a. 0) ≡ data_written (data_begin objects) (linked objects p.stack).memory.items (λ a. 0)
unfolding linked
program_written p functions objects input globals there all small =
    let w = (linked_setting p functions objects input).addresses in
    ap (λ (gs : List FlowGlobal). with_globals w gs (λ a. 0)) (sym globals)
    ∙ globals_written w (sites_of objects) (data_begin objects) 0 (data_size objects) (layout.globals_of objects) (λ a. 0) there all (omega arith) small (same_bytes p functions objects input)

-- ---- both

pub has_data : OtherwiseZero → StartsLawfully → (p : Program) (functions : List Located) (objects : List Object) (input : List ℕ) → IsMemory (linked objects p.stack).memory
    → layout.globals_of objects ≡ globals_of p → AllByRecursion (HasItsAddress objects p.stack) (data_of objects) → AllByRecursion IsGlobal (layout.globals_of objects) → data_size objects < 2 ^ 32
    → HasData (linked_setting p functions objects input) (linked objects p.stack).memory
has_data otherwise starts p functions objects input is globals there all small a le =
    let m = (linked objects p.stack).memory in
    let begin : data_start_of m.words ≡ data_begin objects = ap data_start (words_count objects p.stack) in
    ap (λ (memory : ℕ → ℕ). memory a) (program_written p functions objects input globals there all small)
    ∙ (ap (λ (n : ℕ). data_written n m.items (λ a. 0) a) (sym begin)
    ∙ data_agree otherwise starts m is a le)

-- ---- bytes

four_bytes : (word : ℕ) → AreBytes (to_be_bytes w32 word)
four_bytes word zero = omega arith
four_bytes word (suc zero) = omega arith
four_bytes word (suc (suc zero)) = omega arith
four_bytes word (suc (suc (suc zero))) = omega arith
four_bytes word (suc (suc (suc (suc i)))) = omega arith

item_bytes : (p : Program) (named : List (List ℕ × ℕ)) (i : Item) → IsItem p i → AreBytes (linking.item_bytes named i)
item_bytes p named (Bytes bytes) h = bytes_at bytes h
item_bytes p named (Address name n) h = four_bytes ((address_in named name + n) % 2 ^ 32)

object_bytes : (p : Program) (named : List (List ℕ × ℕ)) (offset : ℕ) (items : List (ℕ × Item)) (rest : List DataItem) → AllByRecursion (λ i. IsItem p i.1) items
    → AllByRecursion (λ i. AreBytes i.bytes) rest → AllByRecursion (λ i. AreBytes i.bytes) (map (item_at named offset) items ++ rest)
object_bytes p named offset [] rest h k = k
object_bytes p named offset (i ∷ items) rest h k = (item_bytes p named i.1 h.0, object_bytes p named offset items rest h.1 k)

all_bytes : (p : Program) (named : List (List ℕ × ℕ)) (at : ℕ) (gs : List FlowGlobal) → AllByRecursion (λ g. AllByRecursion (λ i. IsItem p i.1) g.items) gs
    → AllByRecursion (λ i. AreBytes i.bytes) (flat_map (items_of named) (standing_from at gs))
all_bytes p named at [] h = tt
all_bytes p named at (g ∷ gs) h =
    let next = at + global_room g in
    object_bytes p named at g.items (flat_map (items_of named) (standing_from next gs)) h.0 (all_bytes p named next gs h.1)

pub data_are_bytes : OrderStays → (p : Program) (functions : List Located) (objects : List Object) → IsProgram p → AreObjectsOf p functions objects
    → AllByRecursion (λ i. AreBytes i.bytes) (linked objects p.stack).memory.items
unfolding linked
data_are_bytes stays p functions objects is of =
    all_bytes p (sites_of objects) 0 (layout.globals_of objects)
    (subst (λ (gs : List FlowGlobal). AllByRecursion (λ g. AllByRecursion (λ i. IsItem p i.1) g.items) gs) (sym (globals_are stays p functions objects is of))
    (each_global (λ g. AllByRecursion (λ i. IsItem p i.1) g.items) (globals_of p) is.items))
