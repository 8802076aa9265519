-- The image of a linked program: what a machine starts with, and where functions and globals stand.
use Rattle.std.specs.Prelude.{◌≡◌, ℕ, ◌+◌, ◌*◌, ◌/◌, ◌%◌, ◌<◌, ◌≤◌, ◌^◌, List, [], ◌∷◌, ◌++◌, length, map, max, Vec}
use Rattle.std.specs.List.{flat_map, AllByRecursion}
use Rattle.pw_value.specs.Rounding.{round8}
use Rattle.pw_value.specs.Limits.{text_start, word_limit, memory_size}
use Rattle.pw_fields.specs.Fields.{u32, text, parts, FitsU32}
use Rattle.pw_fields.specs.FieldFrame.{IsFileOf}
use Rattle.pw_fields.specs.FieldNames.{name_table, name_index, IsTableOf}
pub use Rattle.pw_files.specs.Contents.{Contents}
use Rattle.std.specs.declared.alloc.Global.{Global}
use Rattle.pw_value.specs.declared.name.Name.{Name}
use Rattle.pw_image.specs.declared.image.DataItem.{DataItem}
use Rattle.pw_image.specs.declared.image.Memory.{Memory}
use Rattle.pw_image.specs.declared.image.Function.{Function}
use Rattle.pw_image.specs.declared.image.GlobalObject.{GlobalObject}
use Rattle.pw_image.specs.declared.image.Image.{Image}

-- ---- the rules

-- a word's address, where the text has so many words
pub record IsInText (words address : ℕ) : Type 0 where
  pub aligned : address % 4 ≡ 0
  pub start : text_start ≤ address
  pub within : address < text_start + 4 * words

-- the data start behind the text, at the next multiple of 8
abbrev pub data_start : ℕ → ℕ
data_start words = round8 (text_start + 4 * words)

-- the least offset that the next item may have: offsets rise, and items do not overlap
abbrev pub free_behind : DataItem → ℕ
free_behind i = i.offset + max 1 (length i.bytes)

-- items in rising order without overlap, inside the data
abbrev pub AreItems : ℕ → ℕ → List DataItem → Type 0
AreItems size free [] = Unit {0}
AreItems size free (i ∷ items) = (free ≤ i.offset) × (i.offset + length i.bytes ≤ size) × AreItems size (free_behind i) items

pub record IsMemory (m : Memory) : Type 0 where
  pub entry : IsInText (length m.words) m.entry
  pub stack : m.stack < 2 ^ 32
  pub stack_end : m.stack_end ≤ memory_size
  pub count : length m.words ≤ word_limit
  pub words : AllByRecursion FitsU32 m.words
  pub data_fits : data_start (length m.words) + m.data_size ≤ m.stack_end
  pub items : AreItems m.data_size 0 m.items

pub record IsImage (v : Image) : Type 0 where
  pub memory : IsMemory v.memory
  pub functions : AllByRecursion (λ f. IsInText (length v.memory.words) f.address × FitsU32 f.frame) v.functions
  pub globals : AllByRecursion (λ g. FitsU32 g.address) v.globals

-- ---- the spelling

abbrev pub item : DataItem → List ℕ
item i = parts (u32 i.offset ∷ text i.bytes ∷ [])

abbrev pub memory : Memory → List ℕ
memory m = parts (u32 m.entry ∷ u32 m.stack ∷ u32 m.stack_end ∷ u32 (length m.words) ∷ flat_map u32 m.words
    ∷ u32 m.data_size ∷ u32 (length m.items) ∷ flat_map item m.items ∷ [])

abbrev pub function : List (List ℕ) → Function → List ℕ
function names f = parts (name_index names f.name ∷ u32 f.address ∷ u32 f.frame ∷ [])

abbrev pub global : List (List ℕ) → GlobalObject → List ℕ
global names g = parts (name_index names g.name ∷ u32 g.address ∷ [])

-- the names that an image uses, in the order of their use
abbrev pub names_of : Image → List (List ℕ)
names_of v = map (λ f. f.name) v.functions ++ map (λ g. g.name) v.globals

-- an image and the table of its names
abbrev pub contents_view : Vec Name Global × Image → Contents Image
contents_view x = record { names = x.0.items; value = x.1 }

abbrev pub spelling : Contents Image → List ℕ
spelling c = parts (memory c.value.memory ∷ name_table c.names
    ∷ u32 (length c.value.functions) ∷ flat_map (function c.names) c.value.functions
    ∷ u32 (length c.value.globals) ∷ flat_map (global c.names) c.value.globals ∷ [])

-- the image is lawful, its lists fit into the file's counts, and the table has the names that it uses
pub record IsContents (c : Contents Image) : Type 0 where
  pub image : IsImage c.value
  pub function_count : FitsU32 (length c.value.functions)
  pub global_count : FitsU32 (length c.value.globals)
  pub name_count : FitsU32 (length c.names)
  pub names : IsTableOf c.names (names_of c.value)

-- PAWI
abbrev pub kind : ℕ
kind = 0x50415749

-- the version of the form of an image file
abbrev pub image_version : ℕ
image_version = 1

-- the bytes are the image file of the contents
abbrev pub IsImageFile : List ℕ → Contents Image → Type 0
IsImageFile bytes c = IsFileOf kind image_version image_version (λ version. spelling) (λ version. IsContents) bytes c
