-- Operands: typed expressions with what constraints ask of them beside their types, and the conversions of operands
-- (ISO C90 6.2).
use Rattle.std.specs.Prelude.{Bool, true, false, ◌&&◌, if◌then◌else◌}
pub use Rattle.pw_types.specs.WellTyped.{promoted_type, type_in}
use Rattle.pw_types.specs.Conversions.{usual_of}
use Rattle.pw_types.specs.TypeTrees.{CType, Int, Pointer, Array, Function, type_of}
use Rattle.pw_types.specs.TypedTrees.{Expression, Node, token_of, type_at}
use Rattle.pw_types.specs.TypedTrees as T
use Rattle.pw_check_rules.specs.Kinds.{plain, same_type, is_array, kind_in}

-- Its node, whether it is an lvalue, and whether it is one of an object that is declared `register`.
pub record Operand : Type 0 where
  pub node : Expression
  pub lvalue : Bool
  pub register : Bool

-- an operand that is no lvalue
abbrev pub value_operand : Expression → Operand
value_operand node = record { node = node; lvalue = false; register = false }

-- a conversion, where the types differ; it stands at the operand's token
abbrev pub cast_to : CType → Expression → Expression
cast_to ty e = if same_type ty (type_in e) then e else Node (token_of e) (plain ty) (T.Cast e)

-- the integral promotions (6.2.1.1), and the conversion to the type that two operands have in common (6.2.1.5)
abbrev pub promote : Expression → Expression
promote e = cast_to (promoted_type (type_in e)) e

abbrev pub common_type : Expression → Expression → CType
common_type a b = Int (usual_of (kind_in (type_in a)) (kind_in (type_in b)))

-- The value of an operand (6.2.2.1): an array that is an lvalue becomes the address of its first element, and a function
-- its address. Every other node stays, and is read where it is an lvalue.
abbrev pub value_by : CType → Bool → Expression → Expression
value_by (Array q n) true e = Node (token_of e) (plain (Pointer q)) (T.Decay e)
value_by (Function q ps) lvalue e = Node (token_of e) (plain (Pointer (type_at e))) (T.Decay e)
value_by ty lvalue e = e

abbrev pub value_of : Operand → Expression
value_of a = value_by (type_in a.node) a.lvalue a.node

-- an array that is declared `register` has no such value
abbrev pub is_register_array : Operand → Bool
is_register_array a = a.register && is_array (type_in a.node)
