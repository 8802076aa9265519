-- Groups of the forms that expressions have.
use Rattle.std.specs.Prelude.{Bool, true, false}
use Rattle.pw_types.specs.TypedTrees.{Form, Number, Str, Local, Global, Function, Cond, Comma, Assign, Member, Deref}

-- a constant, a string or a name
abbrev pub is_leaf : Form → Bool
is_leaf (Number n) = true
is_leaf (Str number) = true
is_leaf (Local local) = true
is_leaf (Global symbol) = true
is_leaf (Function symbol) = true
is_leaf _ = false

-- for whose place no other is evaluated first, or that denotes none
abbrev pub is_alone : Form → Bool
is_alone (Cond c a b) = false
is_alone (Comma a b) = false
is_alone (Assign a b) = false
is_alone (Member a offset) = false
is_alone (Deref a) = false
is_alone _ = true

-- whether expressions of the form denote a place, or may be a structure or union
abbrev pub denotes : Form → Bool
denotes (Str number) = true
denotes (Local local) = true
denotes (Global symbol) = true
denotes (Function symbol) = true
denotes (Member a offset) = true
denotes (Deref a) = true
denotes (Cond c a b) = true
denotes (Comma a b) = true
denotes (Assign a b) = true
denotes _ = false
