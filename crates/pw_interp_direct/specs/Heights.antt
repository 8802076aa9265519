-- How deep the nodes of an expression stand.
use Rattle.std.specs.Prelude.{ℕ, suc, max}
use Rattle.pw_types.specs.TypedTrees.{Expression, Node, Form, Number, Str, Local, Global, Function, Unary, Binary, Logic, Cond, Comma, Assign, Compound, Step, Cast, Decay, Member, Deref, Address, Call, CallValue, Expressions, NoExpression, OneExpression}

unfoldable mutual
  -- how many nodes stand one below the other at most, its own the first
  pub height : Expression → ℕ
  height (Node t ty form) = suc (height_below form)

  -- the same of the nodes below one of this form
  pub height_below : Form → ℕ
  height_below (Number n) = 0
  height_below (Str k) = 0
  height_below (Local k) = 0
  height_below (Global symbol) = 0
  height_below (Function symbol) = 0
  height_below (Unary op a) = height a
  height_below (Binary op a b) = max (height a) (height b)
  height_below (Logic op a b) = max (height a) (height b)
  height_below (Cond c a b) = max (height c) (max (height a) (height b))
  height_below (Comma a b) = max (height a) (height b)
  height_below (Assign a b) = max (height a) (height b)
  height_below (Compound op working a b) = max (height a) (height b)
  height_below (Step op a) = height a
  height_below (Cast a) = height a
  height_below (Decay a) = height a
  height_below (Address a) = height a
  height_below (Member a offset) = height a
  height_below (Deref a) = height a
  height_below (Call symbol args) = greatest_height args
  height_below (CallValue a args) = max (height a) (greatest_height args)

  -- the same of a list
  pub greatest_height : Expressions → ℕ
  greatest_height NoExpression = 0
  greatest_height (OneExpression a rest) = max (height a) (greatest_height rest)
