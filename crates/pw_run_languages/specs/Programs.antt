-- A list of flow modules as a program: its functions and objects by their names and numbers.
use Rattle.std.specs.Prelude.{ℕ, ◌≡◌, ◌<◌, ◌==◌, true, if◌then◌else◌, Option, Some, None, option_map, List, [], ◌∷◌, ◌++◌, map, find, position, count_by, replicate, slice_get, bytes_eq, Contains}
use Rattle.std.specs.List.{flat_map, AllByRecursion}
use Rattle.pw_value.specs.declared.value.Byte.{Byte}
use Rattle.pw_value.specs.declared.value.Byte.TheVariants as B
use Rattle.pw_value.specs.declared.value.Pointer.{Pointer}
use Rattle.pw_value.specs.declared.value.Pointer.TheVariants as P
use Rattle.pw_value.specs.Objects.{Object, with_bytes}
use Rattle.pw_value.specs.Names.{is_before}
use Rattle.pw_value.specs.ProgramNames.{exit_name, getchar_name, putchar_name, library_functions, exit_shape, getchar_shape, putchar_shape}
use Rattle.pw_value.specs.Values.{pieces_of}
use Rattle.pw_flow.specs.declared.flow.Item.{Item}
use Rattle.pw_flow.specs.declared.flow.Item.TheVariants.{Bytes, Address}
use Rattle.pw_flow.specs.declared.flow.FlowGlobal.{FlowGlobal}
use Rattle.pw_flow.specs.declared.flow.FlowFn.{FlowFn}
use Rattle.pw_flow.specs.declared.flow.FlowModule.{FlowModule}
use Rattle.pw_flow.specs.declared.flow.Block.{Block}

-- the modules in the order of linking, the frame that each function takes on the stack, and the stack's size
pub record Program : Type 0 where
  pub modules : List FlowModule
  pub frame_of : List ℕ → ℕ
  pub stack : ℕ

-- ---- what a run is given

-- the input is of bytes
abbrev pub AreBytes : List ℕ → Type 0
AreBytes input = AllByRecursion (λ byte. byte < 256) input

-- the library's functions need no stack
abbrev pub NoneForLibrary : (List ℕ → ℕ) → Type 0
NoneForLibrary frame_of = (name : List ℕ) → Contains library_functions name → frame_of name ≡ 0

-- ---- functions

-- what the library has: it reads a byte, writes one, or ends the run
pub data Library : Type 0 where
  GetChar : Library
  PutChar : Library
  Exit : Library

abbrev pub library_at : List ℕ → Option Library
library_at name =
    if bytes_eq name getchar_name then Some GetChar else
    if bytes_eq name putchar_name then Some PutChar else
    if bytes_eq name exit_name then Some Exit else None

abbrev pub library_shape : Library → List ℕ
library_shape GetChar = getchar_shape
library_shape PutChar = putchar_shape
library_shape Exit = exit_shape

abbrev pub functions_of : Program → List FlowFn
functions_of p = flat_map (λ m. m.functions) p.modules

abbrev pub function_named : Program → List ℕ → Option FlowFn
function_named p name = find (λ f. bytes_eq f.name name) (functions_of p)

abbrev pub names_of : Program → List (List ℕ)
names_of p = library_functions ++ map (λ f. f.name) (functions_of p)

-- a function's number is its place among the names of all functions in byte order
abbrev pub function_number : Program → List ℕ → ℕ
function_number p name = count_by (λ other. is_before other name) (names_of p)

abbrev pub function_at : Program → ℕ → Option (List ℕ)
function_at p n = find (λ name. function_number p name == n) (names_of p)

-- the shape of a function
abbrev pub shape_of : Program → List ℕ → Option (List ℕ)
shape_of p name = shape_by (library_at name) (function_named p name)
  where
    shape_by : Option Library → Option FlowFn → Option (List ℕ)
    shape_by (Some g) f = Some (library_shape g)
    shape_by None f = option_map (λ f. f.shape) f

abbrev pub block_at : FlowFn → ℕ → Option Block
block_at f n = slice_get f.blocks n

-- ---- objects

abbrev pub globals_of : Program → List FlowGlobal
globals_of p = flat_map (λ m. m.globals) p.modules

-- the objects that live for the whole run have the first numbers, in the order of linking
abbrev pub global_number : Program → List ℕ → Option ℕ
global_number p name = position (λ g. bytes_eq g.name name) (globals_of p)

abbrev pub global_named : Program → List ℕ → Option FlowGlobal
global_named p name = find (λ g. bytes_eq g.name name) (globals_of p)

-- what a name denotes: an object, or else a function
abbrev pub pointer_to : Program → List ℕ → ℕ → Pointer
pointer_to p name offset = pointer_by (global_number p name)
  where
    pointer_by : Option ℕ → Pointer
    pointer_by (Some n) = P.Object n offset
    pointer_by None = P.Function (function_number p name)

abbrev pub item_bytes : Program → Item → List Byte
item_bytes p (Bytes bytes) = map B.Num bytes
item_bytes p (Address name offset) = pieces_of (pointer_to p name offset)

abbrev pub with_items : Program → List (ℕ × Item) → List Byte → List Byte
with_items p [] bytes = bytes
with_items p (i ∷ rest) bytes = with_items p rest (with_bytes (item_bytes p i.1) i.0 bytes)

-- zeros where no item stands
abbrev pub object_of : Program → FlowGlobal → Object
object_of p g = record { bytes = with_items p g.items (replicate g.size (B.Num 0)); live = true; writable = true }

abbrev pub start_objects : Program → List Object
start_objects p = map (object_of p) (globals_of p)
