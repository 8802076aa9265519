-- An expression as what stands along its left edge. A chain of operators that group to the left leans to the left, so
-- code goes down the first operands by a loop.
use Rattle.std.specs.Prelude.{Option, None, Some, List, [], ◌∷◌}
use Rattle.pw_types.specs.TypedTrees.{Expression, Node, Form, Number, Str, Local, Global, Function, Unary, Binary, Logic, Cond, Comma, Assign, Compound, Step, Cast, Decay, Member, Deref, Address, Call, CallValue, Expressions, NoExpression, OneExpression}

-- the operand that is evaluated first; None for a leaf and for a call of a function that is named directly
abbrev pub first_in : Form → Option Expression
first_in (Number n) = None
first_in (Str k) = None
first_in (Local k) = None
first_in (Global s) = None
first_in (Function s) = None
first_in (Unary op a) = Some a
first_in (Binary op a b) = Some a
first_in (Logic op a b) = Some a
first_in (Cond a b c) = Some a
first_in (Comma a b) = Some a
first_in (Assign a b) = Some a
first_in (Compound op ty a b) = Some a
first_in (Step op a) = Some a
first_in (Cast a) = Some a
first_in (Decay a) = Some a
first_in (Member a offset) = Some a
first_in (Deref a) = Some a
first_in (Address a) = Some a
first_in (Call s args) = None
first_in (CallValue a args) = Some a

abbrev pub first_of : Expression → Option Expression
first_of (Node token ty form) = first_in form

-- the operands behind it, in order
abbrev pub others_in : Form → Expressions
others_in (Number n) = NoExpression
others_in (Str k) = NoExpression
others_in (Local k) = NoExpression
others_in (Global s) = NoExpression
others_in (Function s) = NoExpression
others_in (Unary op a) = NoExpression
others_in (Binary op a b) = OneExpression b NoExpression
others_in (Logic op a b) = OneExpression b NoExpression
others_in (Cond a b c) = OneExpression b (OneExpression c NoExpression)
others_in (Comma a b) = OneExpression b NoExpression
others_in (Assign a b) = OneExpression b NoExpression
others_in (Compound op ty a b) = OneExpression b NoExpression
others_in (Step op a) = NoExpression
others_in (Cast a) = NoExpression
others_in (Decay a) = NoExpression
others_in (Member a offset) = NoExpression
others_in (Deref a) = NoExpression
others_in (Address a) = NoExpression
others_in (Call s args) = args
others_in (CallValue a args) = args

abbrev pub others_of : Expression → Expressions
others_of (Node token ty form) = others_in form

-- The nodes of an expression along its left edge: itself, its first operand, that one's first operand, and so on.
abbrev mutual
  pub spine_of : Expression → List Expression
  spine_of (Node token ty form) = Node token ty form ∷ spine_in form

  pub spine_in : Form → List Expression
  spine_in (Number n) = []
  spine_in (Str k) = []
  spine_in (Local k) = []
  spine_in (Global s) = []
  spine_in (Function s) = []
  spine_in (Unary op a) = spine_of a
  spine_in (Binary op a b) = spine_of a
  spine_in (Logic op a b) = spine_of a
  spine_in (Cond a b c) = spine_of a
  spine_in (Comma a b) = spine_of a
  spine_in (Assign a b) = spine_of a
  spine_in (Compound op ty a b) = spine_of a
  spine_in (Step op a) = spine_of a
  spine_in (Cast a) = spine_of a
  spine_in (Decay a) = spine_of a
  spine_in (Member a offset) = spine_of a
  spine_in (Deref a) = spine_of a
  spine_in (Address a) = spine_of a
  spine_in (Call s args) = []
  spine_in (CallValue a args) = spine_of a

-- What is made of an expression from the last node of its left edge back to the first: each step takes a node and what
-- was made of its first operand, where it has one.
abbrev pub made_along : {A : Type 0} → (Expression → Option A → A) → List Expression → Option A
made_along step [] = None
made_along step (e ∷ rest) = Some (step e (made_along step rest))
