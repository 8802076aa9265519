-- The memory and the image of lawful objects are lawful.
use Rattle.std.proofs.Common.{◌≡◌, ℕ, ◌+◌, ◌*◌, ◌%◌, ◌^◌, ◌<◌, ◌≤◌, Bool, true, false, Option, None, Some, List, [], ◌∷◌, ◌++◌, map, length, max, refl, sym, ap, subst, ◌∙◌, arith, add_assoc, add-zero, nat_lt, if◌then◌else◌}
use Rattle.std.specs.Prelude.{unwrap_or}
use Rattle.std.specs.List.{AllByRecursion, sum_by, flat_map}
use Rattle.std.proofs.lemmas.Bool.{ltb-false}
use Rattle.std.proofs.lemmas.List.{length-set, length-append}
use Rattle.std.proofs.lemmas.List.Sums.{sum_by-cons}
use Rattle.pw_value.specs.Caps.{capped}
use Rattle.pw_value.specs.Limits.{text_start, word_limit, memory_size}
use Rattle.pw_fields.specs.Fields.{FitsU32}
use Rattle.pw_value.specs.ProgramNames.{start_name}
use Rattle.pw_value.specs.declared.fault.LinkFault.TheVariants.{TextTooLarge, MemoryTooLarge}
use Rattle.pw_inst.specs.declared.relocation.Fix.{Fix}
use Rattle.pw_flow.specs.declared.flow.FlowGlobal.{FlowGlobal}
use Rattle.pw_flow.specs.declared.flow.Item.{Item}
use Rattle.pw_flow.specs.declared.flow.Item.TheVariants.{Bytes, Address}
use Rattle.pw_flow.specs.ValidFlow.{IsGlobal, item_size}
use Rattle.pw_flow.specs.ValidFlow.{AreItems as FlowItems}
use Rattle.pw_inst.specs.InstructionTable.{word_of, nop}
use Rattle.pw_object.specs.declared.object.Object.{Object}
use Rattle.pw_object.specs.Functions.{IsFunction}
use Rattle.pw_object.specs.Object.{IsObject}
use Rattle.pw_image.specs.declared.image.DataItem.{DataItem}
use Rattle.pw_image.specs.Image.{IsInText, IsMemory, IsImage, AreItems}
use Rattle.pw_link_rules.specs.Linking.{has_main}
use Rattle.pw_link.specs.Layout.{Piece, placed_from, in_order, pieces_of, word_count, globals_of, Standing, standing_from, data_of, data_size, data_begin, stack_end, global_site, Sites}
use Rattle.pw_flow.specs.ValidFlow.{global_room}
use Rattle.pw_link.specs.Linking.{with_fix, with_fixes, piece_words, linked_words, item_bytes, item_at, items_of, function_of, global_of, fault_by, linked, AreLinked}
use Rattle.pw_law_link.specs.Standing.{sites}
use Rattle.pw_law_link.specs.Parts.{HasWordsOf32Bits, AreLawfulParts}
use Rattle.pw_law_link.proofs.Kept.{all_flat, all_by, each_flat}
use Rattle.pw_law_link.proofs.Fitting.{IsPiece, pieces_fit, pieces_have_words, words_fit, ordered}
use Rattle.pw_law_link.proofs.Starting.{start_is_defined, is_start_there, IsFound, found}

abbrev size_of : List Piece → ℕ
size_of ps = sum_by (λ p. length p.words) ps

-- ---- how many words

pub fix_length : (s : Sites) (at : ℕ) (fixes : List Fix) (words : List ℕ) → length (with_fixes s at fixes words) ≡ length words
fix_length s at [] words = refl
fix_length s at (f ∷ fixes) words = fix_length s at fixes (with_fix s at f words) ∙ length-set words f.word _

both_sums : (a b c d : ℕ) → a ≡ b → c ≡ d → a + c ≡ b + d
both_sums a b c d e f = cc

pub texts_length : (s : Sites) (at : ℕ) (ps : List Piece) → length (flat_map (piece_words s) (placed_from at ps)) ≡ size_of ps
texts_length s at [] = refl
texts_length s at (p ∷ ps) =
    let own = with_fixes s at p.fixes p.words in
    let rest = flat_map (piece_words s) (placed_from (at + 4 * length p.words) ps) in
    length-append own rest
    ∙ both_sums (length own) (length p.words) (length rest) (size_of ps) (fix_length s at p.fixes p.words) (texts_length s (at + 4 * length p.words) ps)
    ∙ sym (sum_by-cons (λ q. length q.words) p ps)

pub words_length : (s : Sites) (at : ℕ) (ps : List Piece) → length (linked_words s (placed_from at ps)) ≡ size_of ps + 1
words_length s at ps =
    length-append (flat_map (piece_words s) (placed_from at ps)) (word_of nop ∷ []) ∙ both_sums _ (size_of ps) 1 1 (texts_length s at ps) refl

-- ---- functions and objects

functions_fit : (count at : ℕ) (ps : List Piece) → at % 4 ≡ 0 → text_start ≤ at → at + 4 * size_of ps < text_start + 4 * count → AllByRecursion IsPiece ps
    → AllByRecursion (λ f. IsInText count f.address × FitsU32 f.frame) (map function_of (placed_from at ps))
functions_fit count at [] aligned start within all = tt
functions_fit count at (p ∷ ps) aligned start within all =
    let e = sum_by-cons (λ q. length q.words) p ps in (
      (record { aligned = aligned; start = start; within = omega (arith, within, e) }, all.0.frame),
      functions_fit count (at + 4 * length p.words) ps (omega (arith, aligned)) (omega (arith, start)) (omega (arith, within, e)) all.1,
    )

globals_fit : (begin : ℕ) (stood : List Standing) → AllByRecursion (λ g. FitsU32 g.address) (map (global_of begin) stood)
globals_fit begin [] = tt
globals_fit begin (s ∷ stood) = (omega arith, globals_fit begin stood)

-- ---- items

item_length : (named : List (List ℕ × ℕ)) (i : Item) → length (item_bytes named i) ≡ item_size i
item_length named (Bytes bytes) = refl
item_length named (Address name n) = refl

small : (n : ℕ) → n < 2 ^ 32 → n % 2 ^ 32 ≡ n
small n lt = omega (arith, lt)

more_free : (size low high : ℕ) (items : List DataItem) → low ≤ high → AreItems size high items → AreItems size low items
more_free size low high [] le items = tt
more_free size low high (i ∷ items) le are = (omega (arith, le, are.0), are.1, are.2)

-- an object's items, before those of the next objects
object_items : (named : List (List ℕ × ℕ)) (size own at next free : ℕ) (items : List (ℕ × Item)) (rest : List DataItem) → FlowItems own free items → free ≤ own + 1 → at + own + 1 ≤ next → next ≤ size → size < 2 ^ 32
    → AreItems size next rest → AreItems size (at + free) (map (item_at named at) items ++ rest)
object_items named size own at next free [] rest are low fits within small_size later = more_free size (at + free) next rest (omega (arith, low, fits)) later
object_items named size own at next free (i ∷ items) rest are low fits within small_size later =
    let here = are.0 in
    let offset : (at + i.0) % 2 ^ 32 ≡ at + i.0 = small (at + i.0) (omega (arith, here.1, fits, within, small_size)) in
    let count = item_length named i.1 in
    let after = object_items named size own at next (i.0 + max 1 (item_size i.1)) items rest are.1 (omega (arith, here.1)) fits within small_size later in
    rw (offset, count) (omega (arith, here.0), omega (arith, here.1, fits, within), rw (add_assoc at i.0 (max 1 (item_size i.1))) after)

all_items : (named : List (List ℕ × ℕ)) (size at : ℕ) (gs : List FlowGlobal) → AllByRecursion IsGlobal gs → at + sum_by global_room gs ≤ size → size < 2 ^ 32
    → AreItems size at (flat_map (items_of named) (standing_from at gs))
all_items named size at [] all within small_size = tt
all_items named size at (g ∷ gs) all within small_size =
    let e = sum_by-cons global_room g gs in
    let rest = all_items named size (at + global_room g) gs all.1 (omega (arith, within, e)) small_size in
    subst (λ free. AreItems size free (map (item_at named at) g.items ++ flat_map (items_of named) (standing_from (at + global_room g) gs))) (add-zero at)
    (object_items named size g.size at (at + global_room g) 0 g.items (flat_map (items_of named) (standing_from (at + global_room g) gs)) all.0.items (omega arith) (omega arith) (omega (arith, within, e)) small_size rest)

globals_lawful : (objects : List Object) → AllByRecursion IsGlobal (flat_map (λ o. o.globals) objects) → AllByRecursion IsGlobal (globals_of objects)
globals_lawful objects all =
    all_flat IsGlobal (λ o. o.globals) (in_order objects)
    (ordered (λ o. AllByRecursion IsGlobal o.globals) objects (each_flat IsGlobal (λ o. o.globals) objects all))

-- ---- sizes

pub record Sized (words end : ℕ) : Type 0 where
  pub text : words ≤ word_limit
  pub memory : end ≤ memory_size

pub sized : (words end : ℕ) → fault_by words end ≡ None → Sized words end
sized words end none = by (nat_lt word_limit words) (nat_lt memory_size end) refl refl none
  where
    by : (a b : Bool) → nat_lt word_limit words ≡ a → nat_lt memory_size end ≡ b → (if a then Some (TextTooLarge (capped (4 * words))) else if b then Some (MemoryTooLarge (capped end)) else None) ≡ None → Sized words end
    by true b e f none = absurd cc
    by false true e f none = absurd cc
    by false false e f none = record { text = ltb-false word_limit words e; memory = ltb-false memory_size end f }

-- ---- the image

entry_in : (count size address : ℕ) (o : Option ℕ) → address ≡ unwrap_or o 0 → IsFound o text_start (text_start + 4 * size) → count ≡ size + 1 → IsInText count address
entry_in count size address o e f more =
    let is : address ≡ f.address = e ∙ ap (λ (x : Option ℕ). unwrap_or x 0) f.is in
    subst (IsInText count) (sym is) (record { aligned = f.aligned; start = f.start; within = omega (arith, f.within, more) })

pub memory_is_lawful : (objects : List Object) (stack : ℕ) → AreLawfulParts objects stack → IsMemory (linked objects stack).memory
unfolding linked
memory_is_lawful objects stack parts =
    let s = sites objects stack in
    let ps = pieces_of objects in
    let size = sized (word_count objects) (stack_end objects stack) parts.fits in
    let count : length (linked_words s (placed_from text_start ps)) ≡ word_count objects = words_length s text_start ps in
    let start = found start_name (map (global_site (data_begin objects)) (data_of objects)) text_start ps refl (is_start_there objects parts.start) in
    let begin : data_begin objects + data_size objects ≤ stack_end objects stack = omega arith in
    record {
      entry = entry_in _ (sum_by (λ p. length p.words) ps) _ _ refl start count;
      stack = parts.small;
      stack_end = size.memory;
      count = rw count size.text;
      words = words_fit s text_start ps (pieces_have_words objects parts.words);
      data_fits = rw count begin;
      items = all_items s.named (data_size objects) 0 (globals_of objects) (globals_lawful objects parts.globals) (omega arith) (omega (arith, begin, size.memory));
    }

-- objects that are lawful for their files have lawful parts, where they are linked
pub parts_are_lawful : (objects : List Object) (stack : ℕ) → AllByRecursion IsObject objects → AreLinked objects stack → stack < 2 ^ 32 → AreLawfulParts objects stack
parts_are_lawful objects stack all linked small = record {
  words = all_flat HasWordsOf32Bits (λ o. o.functions) objects
      (all_by IsObject (λ o. AllByRecursion HasWordsOf32Bits o.functions) objects
      (λ o is. all_by IsFunction HasWordsOf32Bits o.functions (λ f own. own.words) is.functions) all);
  globals = all_flat IsGlobal (λ o. o.globals) objects (all_by IsObject (λ o. AllByRecursion IsGlobal o.globals) objects (λ o is. is.globals) all);
  start = start_is_defined objects all (linked.program has_main);
  fits = linked.fits;
  small = small;
}

pub linked_is_lawful : (objects : List Object) (stack : ℕ) → AllByRecursion IsObject objects → AreLinked objects stack → stack < 2 ^ 32 → IsImage (linked objects stack)
unfolding linked
linked_is_lawful objects stack all linked small =
    let s = sites objects stack in
    let ps = pieces_of objects in
    let count : length (linked_words s (placed_from text_start ps)) ≡ word_count objects = words_length s text_start ps in
    record {
      memory = memory_is_lawful objects stack (parts_are_lawful objects stack all linked small);
      functions = rw count (functions_fit (word_count objects) text_start ps refl (omega arith) (omega arith) (pieces_fit objects all));
      globals = globals_fit (data_begin objects) (data_of objects);
    }
