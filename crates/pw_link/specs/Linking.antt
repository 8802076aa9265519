-- Linking: the words with their relocations done, the data with its addresses, and the map.
use Rattle.std.specs.Prelude.{◌≡◌, ℕ, pos, ◌+◌, ◌-◌, ◌*◌, ◌/◌, ◌%◌, ◌^◌, nat_lt, if◌then◌else◌, Option, Some, None, List, [], ◌∷◌, ◌++◌, map, slice_index_or, slice_set}
use Rattle.std.specs.List.{flat_map}
use Rattle.std.specs.Int.{to_be_bytes, w32}
use Rattle.pw_value.specs.Caps.{capped}
use Rattle.pw_value.specs.Limits.{memory_size, word_limit}
use Rattle.pw_value.specs.ProgramNames.{start_name}
use Rattle.pw_value.specs.declared.fault.LinkFault.{LinkFault}
use Rattle.pw_value.specs.declared.fault.LinkFault.TheVariants.{TextTooLarge, MemoryTooLarge}
use Rattle.pw_inst.specs.InstructionTable.{word_of, nop}
use Rattle.pw_inst.specs.Setting.{left_part, right_part, with_long_immediate, with_displacement, with_branch}
use Rattle.pw_inst.specs.declared.relocation.Fix.{Fix}
use Rattle.pw_inst.specs.declared.relocation.FixKind.{FixKind}
use Rattle.pw_inst.specs.declared.relocation.FixKind.TheVariants.{Ldil, Im14, Bl}
use Rattle.pw_inst.specs.declared.relocation.Symbol.{Symbol}
use Rattle.pw_inst.specs.declared.relocation.Symbol.TheVariants.{Named, Word, StackLimit, Routine}
use Rattle.pw_flow.specs.declared.flow.Item.{Item}
use Rattle.pw_flow.specs.declared.flow.Item.TheVariants.{Bytes, Address}
use Rattle.pw_link_interface.specs.FromObject.Object.{Object}
use Rattle.pw_image.specs.declared.image.DataItem.{DataItem}
use Rattle.pw_image.specs.declared.image.Memory.{Memory}
use Rattle.pw_image.specs.declared.image.Image.{Image}
use Rattle.pw_image.specs.declared.image.Function.{Function}
use Rattle.pw_image.specs.declared.image.GlobalObject.{GlobalObject}
use Rattle.pw_link_interface.specs.Interface.{interface}
use Rattle.pw_link_rules.specs.Linking.{Links, Refusal}
use Rattle.pw_link.specs.Layout.{Placed, text_of, word_count, Standing, data_of, data_size, data_begin, stack_end, address_in, Sites, sites_by}

-- ---- relocations

-- the address of a word of a function that stands at an address
abbrev pub word_address : ℕ → ℕ → ℕ
word_address own k = (own + 4 * k) % 2 ^ 32

-- the address of a symbol of such a function
abbrev pub symbol_address : Sites → ℕ → Symbol → ℕ
symbol_address sites own (Named name) = address_in sites.named name
symbol_address sites own (Word k) = word_address own k
symbol_address sites own StackLimit = sites.stack_end
symbol_address sites own (Routine k) = slice_index_or sites.routines k 0

-- how far a branch at an address goes to another, in words, counted from two words behind it, in 32 bits; only
-- the low 17 bits are looked at
abbrev pub branch_distance : ℕ → ℕ → ℕ
branch_distance own target = (target + (2 ^ 32 - (own + 8) % 2 ^ 32)) % 2 ^ 32 / 4

-- a word at its own address, into which an address goes
unfoldable pub settled : FixKind → ℕ → ℕ → ℕ → ℕ
settled Ldil own address word = with_long_immediate word (left_part address)
settled Im14 own address word = with_displacement word (pos (right_part address))
settled Bl own address word = with_branch word (branch_distance own address)

-- a function's words after one relocation, where it stands at an address
abbrev pub with_fix : Sites → ℕ → Fix → List ℕ → List ℕ
with_fix sites at f words =
    slice_set words f.word
    (settled f.kind (word_address at f.word) ((symbol_address sites at f.symbol + f.addend) % 2 ^ 32)
    (slice_index_or words f.word 0))

abbrev pub with_fixes : Sites → ℕ → List Fix → List ℕ → List ℕ
with_fixes sites at [] words = words
with_fixes sites at (f ∷ rest) words = with_fixes sites at rest (with_fix sites at f words)

abbrev pub piece_words : Sites → Placed → List ℕ
piece_words sites p = with_fixes sites p.address p.piece.fixes p.piece.words

-- a last instruction that does nothing stands behind the routines
abbrev pub linked_words : Sites → List Placed → List ℕ
linked_words sites text = flat_map (piece_words sites) text ++ word_of nop ∷ []

-- ---- data

-- an address in an object is four bytes
abbrev pub item_bytes : List (List ℕ × ℕ) → Item → List ℕ
item_bytes named (Bytes bytes) = bytes
item_bytes named (Address name n) = to_be_bytes w32 ((address_in named name + n) % 2 ^ 32)

abbrev pub item_at : List (List ℕ × ℕ) → ℕ → ℕ × Item → DataItem
item_at named offset i = record { offset = (offset + i.0) % 2 ^ 32; bytes = item_bytes named i.1 }

abbrev pub items_of : List (List ℕ × ℕ) → Standing → List DataItem
items_of named s = map (item_at named s.offset) s.global.items

-- ---- the image

abbrev pub function_of : Placed → Function
function_of p = record { name = p.piece.name; address = p.address; frame = p.piece.frame }

abbrev pub global_of : ℕ → Standing → GlobalObject
global_of start s = record { name = s.global.name; address = (start + s.offset) % 2 ^ 32 }

-- the memory and the image of pieces and objects that stand at their places
abbrev pub memory_by : List Placed → List Standing → ℕ → ℕ → ℕ → ℕ → Memory
memory_by text stood begin size stack end = record {
  entry = address_in (sites_by text begin stood end).named start_name;
  stack = stack;
  stack_end = end;
  words = linked_words (sites_by text begin stood end) text;
  data_size = size;
  items = flat_map (items_of (sites_by text begin stood end).named) stood;
}

abbrev pub image_by : List Placed → List Standing → ℕ → ℕ → ℕ → ℕ → Image
image_by text stood begin size stack end = record {
  memory = memory_by text stood begin size stack end;
  functions = map function_of text;
  globals = map (global_of begin) stood;
}

unfoldable pub linked : List Object → ℕ → Image
linked objects stack =
    image_by (text_of objects) (data_of objects) (data_begin objects) (data_size objects) stack (stack_end objects stack)

-- The text or the memory is too small for the program: the first of the two, with the text's bytes or the end of
-- the stack.
abbrev pub fault_by : ℕ → ℕ → Option LinkFault
fault_by words end =
    if nat_lt word_limit words then Some (TextTooLarge (capped (4 * words))) else
    if nat_lt memory_size end then Some (MemoryTooLarge (capped end)) else None

abbrev pub size_fault : List Object → ℕ → Option LinkFault
size_fault objects stack = fault_by (word_count objects) (stack_end objects stack)

-- ---- whether objects are linked

-- the modules make a program, for which text and memory are large enough
pub record AreLinked (objects : List Object) (stack : ℕ) : Type 0 where
  pub program : Links (map interface objects)
  pub fits : size_fault objects stack ≡ None

-- what is refused first: a rule of the language's linking, or a size
pub data IsRefusal (objects : List Object) (stack : ℕ) (fault : LinkFault) : Type 0 where
  no_program : Refusal (map interface objects) fault → IsRefusal objects stack fault
  too_large : Links (map interface objects) → size_fault objects stack ≡ Some fault → IsRefusal objects stack fault
