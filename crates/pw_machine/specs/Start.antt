-- The state in which a program begins: its words as text, its data, and a stack above them.
use Rattle.std.specs.Prelude.{ℕ, ◌+◌, ◌%◌, ◌^◌, ◌<◌, ◌≤◌, ◌⊎◌, List, [], ◌∷◌, length, replicate, None, false, slice_set}
use Rattle.pw_inst.specs.Registers.{stack_pointer}
use Rattle.pw_value.specs.Limits.{text_start, memory_size}
use Rattle.pw_value.specs.Rounding.{stack_start}
use Rattle.pw_image.specs.declared.image.DataItem.{DataItem}
use Rattle.pw_image.specs.declared.image.Memory.{Memory}
use Rattle.pw_image.specs.Image.{data_start}
use Rattle.pw_machine.specs.Core.{Core}
-- bytes and words that are written over a memory
pub use Rattle.pw_pages.specs.Bytes.{overwritten, bytes_of}
unfoldable pub use Rattle.pw_pages.specs.Bytes.{zeros}

-- a list with items of data written over it, each at its offset from an address
abbrev pub with_items : List ℕ → ℕ → List DataItem → List ℕ
with_items memory a [] = memory
with_items memory a (i ∷ items) = with_items (overwritten memory (a + i.offset) i.bytes) a items

-- a place outside an item, whose offset is from an address
abbrev pub IsOutside : ℕ → ℕ → DataItem → Type 0
IsOutside a place i = (place < a + i.offset) ⊎ (a + i.offset + length i.bytes ≤ place)

-- The data begin at the first multiple of 8 after the text.
abbrev pub data_start_of : List ℕ → ℕ
data_start_of words = data_start (length words)

-- The stack begins above the end of the data.
abbrev pub stack_start_of : List ℕ → ℕ → ℕ
stack_start_of words data_size = stack_start (data_start_of words + data_size)

-- The memory is 0 but for the text, at its start, and the items of the data, at their offsets.
abbrev pub start_memory : List ℕ → List DataItem → List ℕ
start_memory words items = with_items (overwritten (zeros memory_size) text_start (bytes_of words)) (data_start_of words) items

-- Front is at the entry and back 4 beyond. The stack pointer points to the stack, and the other registers are 0.
unfoldable pub start_core : ℕ → List ℕ → ℕ → List DataItem → Core
start_core entry words data_size items = record {
  registers = slice_set (replicate 32 0) stack_pointer (stack_start_of words data_size);
  front = entry;
  back = (entry + 4) % 2 ^ 32;
  nullify = false;
  shift = 0;
  memory = start_memory words items;
  text = length words;
  data_start = data_start_of words;
  stopped = None;
}

-- the state in which the program of an image begins
abbrev pub image_start : Memory → Core
image_start m = start_core m.entry m.words m.data_size m.items
