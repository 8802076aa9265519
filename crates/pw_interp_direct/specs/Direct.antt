-- Expressions that are evaluated at once: those in which nothing is called and nothing chosen. What stands in front of a comma
-- counts as chosen.
use Rattle.std.specs.Prelude.{⊤}
use Rattle.pw_types.specs.TypedTrees.{Expression, Node, Number, Str, Local, Global, Function, Unary, Binary, Logic, Cond, Comma, Assign, Compound, Step, Cast, Decay, Member, Deref, Address, Call, CallValue}

unfoldable mutual
  -- nothing is called or chosen on the way to its result
  pub IsDirect : Expression → Type 0
  IsDirect (Node t ty (Number n)) = ⊤
  IsDirect (Node t ty (Str k)) = ⊤
  IsDirect (Node t ty (Local k)) = ⊤
  IsDirect (Node t ty (Global symbol)) = ⊤
  IsDirect (Node t ty (Function symbol)) = ⊤
  IsDirect (Node t ty (Unary op a)) = IsDirect a
  IsDirect (Node t ty (Binary op a b)) = IsDirect a × IsDirect b
  IsDirect (Node t ty (Logic op a b)) = ⊥
  IsDirect (Node t ty (Cond c a b)) = ⊥
  IsDirect (Node t ty (Comma a b)) = ⊥
  IsDirect (Node t ty (Assign a b)) = HasDirectPlace a × IsDirect b
  IsDirect (Node t ty (Compound op working a b)) = HasDirectPlace a × IsDirect b
  IsDirect (Node t ty (Step op a)) = HasDirectPlace a
  IsDirect (Node t ty (Cast a)) = IsDirect a
  IsDirect (Node t ty (Decay a)) = HasDirectPlace a
  IsDirect (Node t ty (Address a)) = HasDirectPlace a
  IsDirect (Node t ty (Member a offset)) = HasDirectPlace a
  IsDirect (Node t ty (Deref a)) = IsDirect a
  IsDirect (Node t ty (Call symbol args)) = ⊥
  IsDirect (Node t ty (CallValue a args)) = ⊥

  -- it is a name, a string, what a pointer points to or a member of such an lvalue; and nothing is called or chosen on the
  -- way to its place
  pub HasDirectPlace : Expression → Type 0
  HasDirectPlace (Node t ty (Str k)) = ⊤
  HasDirectPlace (Node t ty (Local k)) = ⊤
  HasDirectPlace (Node t ty (Global symbol)) = ⊤
  HasDirectPlace (Node t ty (Function symbol)) = ⊤
  HasDirectPlace (Node t ty (Member a offset)) = HasDirectPlace a
  HasDirectPlace (Node t ty (Deref a)) = IsDirect a
  HasDirectPlace (Node t ty _) = ⊥
