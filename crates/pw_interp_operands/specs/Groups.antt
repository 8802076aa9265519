-- Groups of the forms that expressions have.
use Rattle.std.specs.Prelude.{Bool, true, false}
use Rattle.pw_types.specs.TypedTrees.{Form, Unary, Binary, Logic, Cond, Comma, Assign, Compound, Step, Cast, Member, Deref, CallValue}

-- an operator whose first operand is a value
abbrev pub is_on_values : Form → Bool
is_on_values (Unary op a) = true
is_on_values (Binary op a b) = true
is_on_values (Logic op a b) = true
is_on_values (Cond c a b) = true
is_on_values (Comma a b) = true
is_on_values (Cast a) = true
is_on_values (Deref a) = true
is_on_values (CallValue a args) = true
is_on_values _ = false

-- an operator whose first operand is a place
abbrev pub is_at_place : Form → Bool
is_at_place (Assign a b) = true
is_at_place (Compound op working a b) = true
is_at_place (Step op a) = true
is_at_place (Member a offset) = true
is_at_place _ = false

-- whose place is found behind that of an operand, or behind its value
abbrev pub has_place_behind : Form → Bool
has_place_behind (Member a offset) = true
has_place_behind (Deref a) = true
has_place_behind (Cond c a b) = true
has_place_behind (Comma a b) = true
has_place_behind (Assign a b) = true
has_place_behind _ = false
