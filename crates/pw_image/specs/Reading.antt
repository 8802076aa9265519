-- Reading an image file from left to right, with the first fault that is met.
use Rattle.std.specs.Prelude.{ℕ, ◌+◌, ◌*◌, ◌%◌, List, length, Result, Ok, Err, Bool, false, nat_le, nat_lt, ◌==◌, ◌&&◌, if◌then◌else◌}
use Rattle.pw_value.specs.Limits.{text_start, word_limit, memory_size}
use Rattle.pw_fields.specs.Fields.{◌>>=◌, done, checked, u32_at, bytes_at, items_at, repeated}
use Rattle.pw_fields.specs.FieldFrame.{here, ended, file_at}
use Rattle.pw_fields.specs.FieldNames.{names_at, name_at, first_unused}
use Rattle.pw_files.specs.Contents.{value_of}
use Rattle.pw_files.specs.Places.{offset_at, item_bytes_at}
use Rattle.pw_image.specs.declared.image.DataItem.{DataItem}
use Rattle.pw_image.specs.declared.image.Memory.{Memory}
use Rattle.pw_image.specs.declared.image.Function.{Function}
use Rattle.pw_image.specs.declared.image.GlobalObject.{GlobalObject}
use Rattle.pw_image.specs.declared.image.Image.{Image}
use Rattle.pw_image.specs.Image.{Contents, data_start, free_behind, names_of, kind, image_version}

abbrev pub is_in_text : ℕ → ℕ → Bool
is_in_text words address = (address % 4 == 0) && (nat_le text_start address && nat_lt address (text_start + 4 * words))

-- ---- the memory

unfoldable pub item_at : ℕ → ℕ → List ℕ → Result (DataItem × List ℕ) ℕ
item_at size free = do
  offset ← offset_at size free
  bytes ← item_bytes_at size offset
  done (record { offset = offset; bytes = bytes })

abbrev pub next_free : ℕ → DataItem → ℕ
next_free free i = free_behind i

unfoldable pub memory_at : List ℕ → Result (Memory × List ℕ) ℕ
memory_at = do
  entry ← u32_at
  stack ← u32_at
  stack_end ← checked (λ e. nat_le e memory_size) u32_at
  count ← checked (λ n. nat_le n word_limit) u32_at
  words ← repeated u32_at count
  data_size ← checked (λ s. nat_le (data_start count + s) stack_end) u32_at
  item_count ← u32_at
  items ← items_at (item_at data_size) next_free item_count 0
  done (record { entry = entry; stack = stack; stack_end = stack_end; words = words; data_size = data_size; items = items })

-- ---- the map

unfoldable pub function_at : List (List ℕ) → ℕ → List ℕ → Result (Function × List ℕ) ℕ
function_at names words = do
  name ← name_at names
  address ← checked (is_in_text words) u32_at
  frame ← u32_at
  done (record { name = name; address = address; frame = frame })

unfoldable pub global_at : List (List ℕ) → List ℕ → Result (GlobalObject × List ℕ) ℕ
global_at names = do
  name ← name_at names
  address ← u32_at
  done (record { name = name; address = address })

-- ---- the payload

-- whether the entry is a word's address, by the count of words that stands twelve bytes behind it
unfoldable pub start_at : List ℕ → Result (Bool × List ℕ) ℕ
start_at = do
  entry ← u32_at
  numbers ← bytes_at 8
  count ← u32_at
  done (is_in_text count entry)

abbrev pub is_lawful_start : Result (Bool × List ℕ) ℕ → Bool
is_lawful_start (Ok x) = x.0
is_lawful_start (Err left) = false

-- the functions and the global objects, which end the contents
abbrev pub map_at : Memory → List (List ℕ) → List ℕ → Result (Contents Image × List ℕ) ℕ
map_at memory names = do
  behind ← here
  function_count ← u32_at
  functions ← repeated (function_at names (length memory.words)) function_count
  global_count ← u32_at
  globals ← repeated (global_at names) global_count
  let image : Image = record { memory = memory; functions = functions; globals = globals } in ended (first_unused names (names_of image) behind) (record { names = names; value = image })

unfoldable pub contents_at : List ℕ → Result (Contents Image × List ℕ) ℕ
contents_at = do
  memory ← memory_at
  names ← names_at
  map_at memory names

-- the entry is looked at first: no word of the text is known where the count of words is short
unfoldable pub payload_at : List ℕ → Result (Contents Image × List ℕ) ℕ
payload_at bytes = if is_lawful_start (start_at bytes) then contents_at bytes else Err (length bytes)

unfoldable pub image_file_at : List ℕ → Result (Contents Image) ℕ
image_file_at bytes = file_at kind image_version image_version (λ version. payload_at) bytes

-- the image that stands in a file
abbrev pub image_at : List ℕ → Result Image ℕ
image_at bytes = value_of (image_file_at bytes)
