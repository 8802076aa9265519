-- A program, and what is there when it starts: the full names of its functions and objects, the functions
-- with their numbers, and the objects of static lifetime (ISO C90 5.1.2, 6.1.2.2, 6.1.2.4).
use Rattle.std.specs.Prelude.{ℕ, ◌+◌, ◌==◌, true, false, Option, Some, None, option_map, unwrap_or, List, [], ◌∷◌, ◌++◌, map, find, position, count_by, replicate}
use Rattle.std.specs.List.{flat_map}
use Rattle.std.specs.Str.{bytes_eq}
use Rattle.pw_value.specs.Names.{is_before}
use Rattle.pw_value.specs.declared.value.Byte.{Byte}
use Rattle.pw_value.specs.declared.value.Byte.TheVariants as B
use Rattle.pw_value.specs.declared.value.Pointer.{Pointer}
use Rattle.pw_value.specs.declared.value.Pointer.TheVariants as P
use Rattle.pw_value.specs.Values.{pieces_of}
use Rattle.pw_value.specs.Objects.{Object, with_bytes}
use Rattle.pw_types.specs.TypeTrees.{type_of}
pub use Rattle.pw_types.specs.FullNames.{full_name}
use Rattle.pw_types.specs.TypedTrees.{FunctionValue, GlobalValue, ItemValue, ItemBytes, ItemAddress, PlacedItem, ModuleValue}
use Rattle.pw_types.specs.Layouts.{layout_of}
use Rattle.pw_types.specs.Shapes.{shape_of}
use Rattle.pw_value.specs.ProgramNames.{start_name, exit_name, getchar_name, putchar_name, exit_shape, getchar_shape, putchar_shape}

-- a module of a program, by its name
pub record ProgramModule : Type 0 where
  pub name : List ℕ
  pub tree : ModuleValue

-- the modules in byte order of their names
pub record Program : Type 0 where
  pub modules : List ProgramModule

-- ---- functions

-- the functions that every program has (7.9.7.6, 7.9.7.9, 7.10.4.3)
pub data LibraryFunction : Type 0 where
  GetChar : LibraryFunction
  PutChar : LibraryFunction
  ExitRun : LibraryFunction

-- what a call of a function runs: its definition, in its module; or what the library has
pub data Body : Type 0 where
  Defined : ProgramModule → FunctionValue → Body
  Library : LibraryFunction → Body

-- a function by its full name, and its shape, by which calls through pointers are told apart
pub record Callable : Type 0 where
  pub name : List ℕ
  pub shape : List ℕ
  pub body : Body

-- a function of the library, with its name and its shape
abbrev pub library_callable : LibraryFunction → Callable
library_callable ExitRun = record { name = exit_name; shape = exit_shape; body = Library ExitRun }
library_callable GetChar = record { name = getchar_name; shape = getchar_shape; body = Library GetChar }
library_callable PutChar = record { name = putchar_name; shape = putchar_shape; body = Library PutChar }

abbrev pub library : List Callable
library = library_callable ExitRun ∷ library_callable GetChar ∷ library_callable PutChar ∷ []

abbrev pub callable : ProgramModule → FunctionValue → Callable
callable m f = record {
  name = full_name m.name f.name;
  shape = shape_of m.tree.records (type_of f.ty) false;
  body = Defined m f;
}

abbrev pub functions_of : Program → List Callable
functions_of program = library ++ flat_map (λ m. map (callable m) m.tree.functions) program.modules

-- the function of a full name
abbrev pub function_named : Program → List ℕ → Option Callable
function_named program name = find (λ f. bytes_eq f.name name) (functions_of program)

-- A function's number is its place among the names of all functions in byte order, that of `$start`
-- included.
abbrev pub function_number : Program → List ℕ → ℕ
function_number program name =
    count_by (λ other. is_before other name) (start_name ∷ map (λ f. f.name) (functions_of program))

-- the function of a number
abbrev pub function_at : Program → ℕ → Option Callable
function_at program number = find (λ f. function_number program f.name == number) (functions_of program)

-- ---- objects of static lifetime

abbrev pub global_names : Program → List (List ℕ)
global_names program = flat_map (λ m. map (λ g. full_name m.name g.name) m.tree.globals) program.modules

-- An object of static lifetime has its place among them as its number: those of each module in the order
-- of its definitions, hidden ones among them.
abbrev pub global_number : Program → List ℕ → Option ℕ
global_number program name = position (λ other. bytes_eq other name) (global_names program)

-- what a full name denotes, and an offset in it: an object, or else a function
abbrev pub pointer_to : Program → List ℕ → ℕ → Option Pointer
pointer_to program name offset = object_or_function (global_number program name)
  where
    object_or_function : Option ℕ → Option Pointer
    object_or_function (Some number) = Some (P.Object number offset)
    object_or_function None = option_map (λ f. P.Function (function_number program f.name)) (function_named program name)

-- the bytes of a part of an initialiser; an address is the four pieces of a pointer
abbrev pub item_bytes : Program → List ℕ → ItemValue → List Byte
item_bytes program home (ItemBytes bytes) = map B.Num bytes
item_bytes program home (ItemAddress symbol offset) =
    unwrap_or (option_map pieces_of (pointer_to program (full_name home symbol) offset)) []

-- the bytes with the items in their places
abbrev pub with_items : Program → List ℕ → List PlacedItem → List Byte → List Byte
with_items program home [] bytes = bytes
with_items program home (placed ∷ rest) bytes =
    with_items program home rest (with_bytes (item_bytes program home placed.item) placed.offset bytes)

-- an object of static lifetime at the start: zeros where its initialiser says nothing (6.5.7)
abbrev pub object_of : Program → ProgramModule → GlobalValue → Object
object_of program m g =
    let size = unwrap_or (option_map (λ l. l.size) (layout_of m.tree.records (type_of g.ty))) 0 in
    record {
      bytes = with_items program m.name g.items (replicate size (B.Num 0));
      live = true;
      writable = g.writable;
    }

-- the objects at the start, each at its number
abbrev pub start_objects : Program → List Object
start_objects program = flat_map (λ m. map (object_of program m) m.tree.globals) program.modules

-- ---- a run's world: what does not change

-- the program, the frame that a function takes on the stack by its full name, and the room of the stack
pub record World : Type 0 where
  pub program : Program
  pub frame_of : List ℕ → ℕ
  pub stack : ℕ

-- the room on the stack that functions take together
abbrev pub depth : World → List (List ℕ) → ℕ
depth world [] = 0
depth world (name ∷ active) = world.frame_of name + depth world active
