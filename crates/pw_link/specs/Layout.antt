-- Where the functions, the routines and the global objects of a linked program stand.
use Rattle.std.specs.Prelude.{ℕ, ◌+◌, ◌-◌, ◌*◌, ◌%◌, ◌^◌, List, [], ◌∷◌, ◌++◌, map, length, drop, fold, insert, unwrap_or}
use Rattle.std.specs.List.{flat_map, sum_by, position_or_len}
use Rattle.std.specs.Map.{lookup}
use Rattle.std.specs.Str.{bytes_eq}
use Rattle.pw_value.specs.Limits.{text_start}
use Rattle.pw_value.specs.Names.{is_before}
use Rattle.pw_value.specs.Rounding.{stack_start}
use Rattle.pw_inst.specs.Limits.{routine_count}
use Rattle.pw_inst.specs.declared.relocation.Fix.{Fix}
use Rattle.pw_flow.specs.ValidFlow.{global_room}
use Rattle.pw_flow.specs.declared.flow.FlowGlobal.{FlowGlobal}
use Rattle.pw_link_interface.specs.FromObject.Object.{Object}
use Rattle.pw_link_interface.specs.FromObject.ObjectFn.{ObjectFn}
use Rattle.pw_image.specs.Image.{data_start}
use Rattle.pw_milli.specs.Library.{routines}

-- ---- order

-- an object put before the first whose module's name is behind its own
abbrev pub inserted : Object → List Object → List Object
inserted o order = insert order (position_or_len (λ p. is_before o.module p.module) order) o

-- in byte order of the modules' names; objects of one name stay in their order
abbrev pub in_order : List Object → List Object
in_order objects = fold (λ order o. inserted o order) [] objects

-- ---- text

-- a function or a routine: its name, its frame, its words before linking, and their relocations
pub record Piece : Type 0 where
  pub name : List ℕ
  pub frame : ℕ
  pub words : List ℕ
  pub fixes : List Fix

abbrev pub piece_of : ObjectFn → Piece
piece_of f = record { name = f.name; frame = f.frame; words = f.words; fixes = f.fixes }

abbrev pub routine_piece : List ℕ × List ℕ → Piece
routine_piece r = record { name = r.0; frame = 0; words = r.1; fixes = [] }

abbrev pub routine_pieces : List Piece
routine_pieces = map routine_piece routines

abbrev pub function_pieces : List Object → List Piece
function_pieces order = flat_map (λ o. map piece_of o.functions) order

-- the functions of the modules, and behind them the library's and the routines
abbrev pub pieces_of : List Object → List Piece
pieces_of objects = function_pieces (in_order objects) ++ routine_pieces

-- a piece at its address
pub record Placed : Type 0 where
  pub address : ℕ
  pub piece : Piece

abbrev pub placed_from : ℕ → List Piece → List Placed
placed_from at [] = []
placed_from at (p ∷ rest) = record { address = at; piece = p } ∷ placed_from (at + 4 * length p.words) rest

abbrev pub text_of : List Object → List Placed
text_of objects = placed_from text_start (pieces_of objects)

-- a last instruction that does nothing stands behind the routines
abbrev pub word_count : List Object → ℕ
word_count objects = sum_by (λ p. length p.words) (pieces_of objects) + 1

-- ---- data

abbrev pub globals_of : List Object → List FlowGlobal
globals_of objects = flat_map (λ o. o.globals) (in_order objects)

-- an object at its offset from the start of the data
pub record Standing : Type 0 where
  pub offset : ℕ
  pub global : FlowGlobal

abbrev pub standing_from : ℕ → List FlowGlobal → List Standing
standing_from at [] = []
standing_from at (g ∷ rest) = record { offset = at; global = g } ∷ standing_from (at + global_room g) rest

abbrev pub data_of : List Object → List Standing
data_of objects = standing_from 0 (globals_of objects)

abbrev pub data_size : List Object → ℕ
data_size objects = sum_by global_room (globals_of objects)

abbrev pub data_begin : List Object → ℕ
data_begin objects = data_start (word_count objects)

-- ---- the stack

abbrev pub end_behind : ℕ → ℕ → ℕ → ℕ
end_behind begin size stack = stack_start (begin + size) + stack

abbrev pub stack_end : List Object → ℕ → ℕ
stack_end objects stack = end_behind (data_begin objects) (data_size objects) stack

-- ---- names

abbrev pub function_site : Placed → List ℕ × ℕ
function_site p = (p.piece.name, p.address)

abbrev pub global_site : ℕ → Standing → List ℕ × ℕ
global_site start s = (s.global.name, (start + s.offset) % 2 ^ 32)

-- names with their addresses: the functions and routines, and behind them the global objects
abbrev pub named_by : List Placed → ℕ → List Standing → List (List ℕ × ℕ)
named_by text begin stood = map function_site text ++ map (global_site begin) stood

-- the address of the first of a name
abbrev pub address_in : List (List ℕ × ℕ) → List ℕ → ℕ
address_in named name = unwrap_or (lookup (bytes_eq name) named) 0

-- the addresses of the routines that a symbol may be, which stand last
abbrev pub routine_addresses : List Placed → List ℕ
routine_addresses text = map (λ p. p.address) (drop (length text - routine_count) text)

-- what addresses are looked up in: the names, the routines from $divs to $remu, and the end of the stack
pub record Sites : Type 0 where
  pub named : List (List ℕ × ℕ)
  pub routines : List ℕ
  pub stack_end : ℕ

abbrev pub sites_by : List Placed → ℕ → List Standing → ℕ → Sites
sites_by text begin stood end = record { named = named_by text begin stood; routines = routine_addresses text; stack_end = end }
