-- Reading a flow file from left to right, with the first fault that is met.
use Rattle.std.specs.Prelude.{ℕ, ◌+◌, ◌*◌, List, [], ◌∷◌, map, max, Result, Option, Some, None, Bool, true, nat_le, nat_lt, ◌==◌, ◌&&◌, not}
use Rattle.pw_value.specs.Limits.{parameter_limit, room_limit}
use Rattle.pw_value.specs.declared.program_names.StartName.{StartName}
use Rattle.pw_value.specs.declared.program_names.StartName.TheVariants.{Refused}
use Rattle.pw_value.specs.declared.value.Kind.{Kind}
use Rattle.pw_fields.specs.Fields.{◌>>=◌, done, checked, u32_at, text_at, flag_at, items_at, repeated}
use Rattle.pw_fields.specs.FieldFrame.{here, ended}
use Rattle.pw_fields.specs.FieldNames.{name_at, is_among}
use Rattle.pw_files.specs.Kinds.{kind_at}
use Rattle.pw_files.specs.Places.{offset_at, item_bytes_at}
use Rattle.pw_files.specs.Contents.{Contents, module_rules, contents_file_at}
use Rattle.pw_flow.specs.declared.flow.Item.{Item}
use Rattle.pw_flow.specs.declared.flow.FlowGlobal.{FlowGlobal}
use Rattle.pw_flow.specs.declared.flow.Block.{Block}
use Rattle.pw_flow.specs.declared.flow.FlowFn.{FlowFn}
use Rattle.pw_flow.specs.declared.flow.FlowModule.{FlowModule}
use Rattle.pw_flow.specs.declared.flow.Item.TheVariants.{Bytes, Address}
use Rattle.pw_flow.specs.FlowGraph.{global_names, function_names}
use Rattle.pw_value.specs.Rounding.{slot_room}
use Rattle.pw_flow.specs.ValidFlow.{kind_size, item_size}
use Rattle.pw_flow_ops.specs.Reading.{one_of_at, named_at, op_at, end_at}
use Rattle.pw_flowfile.specs.declared.globals.ItemForm.{ItemForm}
use Rattle.pw_flowfile.specs.declared.globals.ItemForm.TheVariants as form
use Rattle.pw_flowfile.specs.FlowFile.{item_forms, names_of, kind_of_file, flow_version}

-- ---- names

-- a name that no name before it is
unfoldable pub fresh_at : List (List ℕ) → List (List ℕ) → List ℕ → Result (List ℕ × List ℕ) ℕ
fresh_at names seen = checked (λ name. not (is_among seen name)) (name_at names)

-- names in the order in which they are met, the last one first
abbrev pub seen_after : List (List ℕ) → List (List ℕ) → List (List ℕ)
seen_after seen [] = seen
seen_after seen (name ∷ names) = seen_after (name ∷ seen) names

-- ---- global objects

abbrev pub has_room : ItemForm → ℕ → ℕ → Bool
has_room form.Bytes size offset = true
has_room form.Address size offset = nat_le (offset + 4) size

unfoldable pub content_at : StartName → List (List ℕ) → ℕ → ℕ → ItemForm → List ℕ → Result (Item × List ℕ) ℕ
content_at start names size offset form.Bytes = do
  bytes ← item_bytes_at size offset
  done (Bytes bytes)
content_at start names size offset form.Address = do
  name ← named_at start names
  n ← u32_at
  done (Address name n)

unfoldable pub item_at : StartName → List (List ℕ) → ℕ → ℕ → List ℕ → Result (Item × List ℕ) ℕ
item_at start names size offset = checked (λ f. has_room f size offset) (one_of_at item_forms) >>= λ form. content_at start names size offset form

unfoldable pub placed_item_at : StartName → List (List ℕ) → ℕ → ℕ → List ℕ → Result ((ℕ × Item) × List ℕ) ℕ
placed_item_at start names size free = do
  offset ← offset_at size free
  item ← item_at start names size offset
  done (offset, item)

abbrev pub next_free : ℕ → ℕ × Item → ℕ
next_free free placed = placed.0 + max 1 (item_size placed.1)

abbrev pub has_kind_size : ℕ → Option Kind → Bool
has_kind_size size None = true
has_kind_size size (Some k) = size == kind_size k

unfoldable pub global_body_at : StartName → List (List ℕ) → List ℕ → List ℕ → Result (FlowGlobal × List ℕ) ℕ
global_body_at start names name = do
  size ← u32_at
  shape ← text_at
  kind ← checked (has_kind_size size) kind_at
  volatile ← flag_at
  count ← u32_at
  items ← items_at (placed_item_at start names size) next_free count 0
  done (record { name = name; size = size; shape = shape; kind = kind; volatile = volatile; items = items })

unfoldable pub global_at : List (List ℕ) → List (List ℕ) → List ℕ → Result (FlowGlobal × List ℕ) ℕ
global_at names seen = fresh_at names seen >>= λ name. global_body_at Refused names name

abbrev pub next_global : List (List ℕ) → FlowGlobal → List (List ℕ)
next_global seen g = g.name ∷ seen

-- ---- functions

unfoldable pub block_at : List (List ℕ) → ℕ → ℕ → ℕ → List ℕ → Result (Block × List ℕ) ℕ
block_at names temps slots blocks = do
  depth ← u32_at
  count ← u32_at
  ops ← repeated (op_at names temps slots) count
  end ← end_at temps blocks
  done (record { depth = depth; ops = ops; end = end })

unfoldable pub slot_at : ℕ → List ℕ → Result (ℕ × List ℕ) ℕ
slot_at room = checked (λ s. nat_le (room + slot_room s) room_limit) u32_at

abbrev pub next_room : ℕ → ℕ → ℕ
next_room room size = room + slot_room size

-- the slots and the blocks of a function with so many temporaries
unfoldable pub code_at : List (List ℕ) → ℕ → List ℕ → Result ((List ℕ × List Block) × List ℕ) ℕ
code_at names temps = do
  slot_count ← u32_at
  slots ← items_at slot_at next_room slot_count (4 * temps)
  count ← checked (λ n. nat_lt 0 n) u32_at
  blocks ← repeated (block_at names temps slot_count count) count
  done (slots, blocks)

unfoldable pub function_body_at : List (List ℕ) → List ℕ → List ℕ → Result (FlowFn × List ℕ) ℕ
function_body_at names name = do
  shape ← text_at
  params ← checked (λ p. nat_le p parameter_limit) u32_at
  temps ← checked (λ t. nat_le params t && nat_le (4 * t) room_limit) u32_at
  code ← code_at names temps
  done (record { name = name; shape = shape; params = params; temps = temps; slots = code.0; blocks = code.1 })

unfoldable pub function_at : List (List ℕ) → List (List ℕ) → List ℕ → Result (FlowFn × List ℕ) ℕ
function_at names seen = fresh_at names seen >>= λ name. function_body_at names name

abbrev pub next_function : List (List ℕ) → FlowFn → List (List ℕ)
next_function seen f = f.name ∷ seen

-- ---- the payload

unfoldable pub declared_body_at : List ℕ → List ℕ → Result ((List ℕ × List ℕ) × List ℕ) ℕ
declared_body_at name = do
  shape ← text_at
  done (name, shape)

unfoldable pub declared_at : List (List ℕ) → List (List ℕ) → List ℕ → Result ((List ℕ × List ℕ) × List ℕ) ℕ
declared_at names seen = fresh_at names seen >>= λ name. declared_body_at name

abbrev pub next_declared : List (List ℕ) → List ℕ × List ℕ → List (List ℕ)
next_declared seen d = d.0 ∷ seen

-- a list that is read behind its count, in turn from a state
unfoldable pub list_at : {S X : Type 0} → (S → List ℕ → Result (X × List ℕ) ℕ) → (S → X → S) → S → List ℕ → Result (List X × List ℕ) ℕ
list_at item next s = u32_at >>= λ count. items_at item next count s

-- the fields of a module, and the place of the count of its functions
unfoldable pub parts_at : List (List ℕ) → List ℕ → Result ((FlowModule × ℕ) × List ℕ) ℕ
parts_at names = do
  name ← name_at names
  globals ← list_at (global_at names) next_global []
  declared ← list_at (declared_at names) next_declared []
  place ← here
  functions ← list_at (function_at names) next_function (seen_after [] (map (λ g. g.name) globals))
  done (record { name = name; globals = globals; functions = functions; declared = declared }, place)

-- the fields to their end, under a rule that is looked at last
unfoldable pub fields_at : List (List ℕ) → (FlowModule → ℕ → Option ℕ) → List ℕ → Result (Contents FlowModule × List ℕ) ℕ
fields_at names late = parts_at names >>= λ p. ended (late p.0 p.1) (record { names = names; value = p.0 })

-- The rules that are looked at last: each name of the table is used, where so many bytes are left behind the
-- table; and $start stands beside main, where so many are left from the count of the functions on.
abbrev pub late_rules : List (List ℕ) → ℕ → FlowModule → ℕ → Option ℕ
late_rules names behind m place = module_rules names (names_of m) behind (function_names m) (global_names m) place

abbrev pub flow_file_at : List ℕ → Result (Contents FlowModule) ℕ
flow_file_at = contents_file_at kind_of_file flow_version flow_version (λ version. fields_at) late_rules
