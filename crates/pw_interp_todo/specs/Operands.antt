-- What follows in an expression behind an operand that gave this (ISO C90 6.3).
use Rattle.std.specs.Prelude.{ℕ, pos, Bool, Option, Some, None, List}
use Rattle.pw_value.specs.declared.value.Value.{Value}
use Rattle.pw_value.specs.declared.value.Value.TheVariants as V
use Rattle.pw_typed.specs.Views.{view_expr, view_exprs, view_symbol}
use Rattle.pw_types.specs.TypeTrees.{CType, type_of}
use Rattle.pw_types.specs.declared.tree.BinaryOperator.{BinaryOperator}
use Rattle.pw_types.specs.Views.{view_type}
use Rattle.pw_types.specs.TypedTrees.{Expression, Node, Unary, Binary, Logic, Cond, Comma, Assign, Compound, Step, Cast, Member, Deref, CallValue, type_at, token_of}
use Rattle.pw_cmean.specs.Worlds.{full_name, function_named}
use Rattle.pw_cmean.specs.Acts.{Act, ◌>>=◌, ◌>>◌, give, branch, need, wrong}
use Rattle.pw_cmean.specs.Access.{Assigning, put}
use Rattle.pw_cmean.specs.Operators.{truth, number_for, unary, binary, advance}
use Rattle.pw_cmean.specs.Evaluation.{Env, site, records_of, used, value_at, cast, values_of, call, call_value, assigned, old_value, update, step, decides}
use Rattle.pw_cmean.specs.SourceRun.{calls}
use Rattle.pw_interp_todo.specs.declared.asked.Asked.TheVariants as A
use Rattle.pw_interp_todo.specs.declared.asked.Callee.{Callee}
use Rattle.pw_interp_todo.specs.declared.asked.Callee.TheVariants as C
use Rattle.pw_interp_todo.specs.declared.asked.Next.{Next}
use Rattle.pw_interp_todo.specs.declared.asked.Next.TheVariants as N
use Rattle.pw_interp_todo.specs.declared.asked.Operand.{Operand}
use Rattle.pw_interp_todo.specs.declared.asked.Operand.TheVariants as O
use Rattle.pw_interp_todo.specs.Asking.{asked_act, answered, placed}

-- whether an operand or a condition that gave this is unlike 0
unfoldable pub tested : Env → ℕ → Option Value → Act Bool
tested e token given = used (site e token) given >>= truth (site e token)

-- ---- what an operator asks of its node

-- of a binary operator: itself and the types of its operands
abbrev pub binary_in : Expression → Option (BinaryOperator × CType × CType)
binary_in (Node t ty (Binary op a b)) = Some (op, type_of (type_at a), type_of (type_at b))
binary_in _ = None

-- of an assignment: the type of its left operand
abbrev pub target_in : Expression → Option CType
target_in (Node t ty (Assign a b)) = Some (type_of (type_at a))
target_in _ = None

-- of an operator with `=`: itself, the type in which it works, and the types of its operands
abbrev pub compound_in : Expression → Option (BinaryOperator × CType × CType × CType)
compound_in (Node t ty (Compound op working a b)) = Some (op, working, type_of (type_at a), type_of (type_at b))
compound_in _ = None

-- ---- behind the last operand

-- of a binary operator, whose left operand is v
unfoldable pub right_behind : Expression → Value → Option Value → Env → ℕ → Act (Option Value)
right_behind a v given e bound = do
  w ← used (site e (token_of a)) given
  p ← need (binary_in a)
  result ← binary (site e (token_of a)) (records_of e) p.0 p.1 p.2 v w
  give (Some result)

-- of `&&` or `||`
unfoldable pub second_behind : Expression → Option Value → Env → ℕ → Act (Option Value)
second_behind a given e bound = do
  second ← tested e (token_of a) given
  give (Some (V.Num (number_for second)))

-- of an assignment to a place: its value, or the place
unfoldable pub assigned_behind : Expression → Value → Option Value → Env → ℕ → Act (Option Value)
assigned_behind a place given e bound = do
  v ← used (site e (token_of a)) given
  ty ← need (target_in a)
  put Assigning (site e (token_of a)) (records_of e) ty place v
  give (Some (assigned ty place v))

unfoldable pub stored_behind : Expression → Value → Option Value → Env → ℕ → Act (Option Value)
stored_behind a place given e bound = do
  v ← used (site e (token_of a)) given
  ty ← need (target_in a)
  put Assigning (site e (token_of a)) (records_of e) ty place v
  give (Some place)

-- of an operator with `=`
unfoldable pub updated_behind : Expression → Value → Value → Option Value → Env → ℕ → Act (Option Value)
updated_behind a place old given e bound = do
  w ← used (site e (token_of a)) given
  p ← need (compound_in a)
  result ← update e (token_of a) p.2 p.1 place p.0 p.3 old w
  give (Some result)

-- ---- behind the first operand

-- of an expression of which the result is asked
unfoldable pub answer_behind : Expression → Option Value → Env → ℕ → Act (Option Value)
answer_behind (Node t ty (Unary op a)) given e bound = do
  v ← used (site e t) given
  result ← unary (site e t) op (type_of ty) v
  give (Some result)
answer_behind (Node t ty (Binary op a b)) given e bound = do
  v ← used (site e t) given
  right ← answered b e bound
  right_behind (Node t ty (Binary op a b)) v right e bound
answer_behind (Node t ty (Logic op a b)) given e bound = do
  first ← tested e t given
  branch (decides op first) (give (Some (V.Num (number_for first)))) (do
    second ← answered b e bound
    second_behind (Node t ty (Logic op a b)) second e bound)
answer_behind (Node t ty (Cond c a b)) given e bound = do
  chosen ← tested e t given
  branch chosen (answered a e bound) (answered b e bound)
answer_behind (Node t ty (Comma a b)) given e bound = answered b e bound
answer_behind (Node t ty (Assign a b)) given e bound = do
  place ← need given
  right ← answered b e bound
  assigned_behind (Node t ty (Assign a b)) place right e bound
answer_behind (Node t ty (Compound op working a b)) given e bound = do
  place ← need given
  old ← old_value e t (type_of (type_at a)) working place
  right ← answered b e bound
  updated_behind (Node t ty (Compound op working a b)) place old right e bound
answer_behind (Node t ty (Step op a)) given e bound = do
  place ← need given
  result ← step e t op (type_of (type_at a)) place
  give (Some result)
answer_behind (Node t ty (Cast a)) given e bound = cast (site e t) (type_of ty) given
answer_behind (Node t ty (Member a offset)) given e bound = do
  whole ← need given
  place ← advance (site e t) whole (pos offset)
  value_at e t ty place
answer_behind (Node t ty (Deref a)) given e bound = do
  place ← used (site e t) given
  value_at e t ty place
answer_behind (Node t ty (CallValue a args)) given e bound = do
  p ← used (site e t) given
  vs ← values_of args t (calls e.world bound) e
  call_value e (calls e.world bound) t (type_of (type_at a)) p vs
answer_behind _ given e bound = wrong

-- of an lvalue of which the place is asked
unfoldable pub place_behind : Expression → Option Value → Env → ℕ → Act (Option Value)
place_behind (Node t ty (Member a offset)) given e bound = do
  whole ← need given
  place ← advance (site e t) whole (pos offset)
  give (Some place)
place_behind (Node t ty (Deref a)) given e bound = do
  place ← used (site e t) given
  give (Some place)
place_behind (Node t ty (Cond c a b)) given e bound = do
  chosen ← tested e t given
  branch chosen (placed a e bound) (placed b e bound)
place_behind (Node t ty (Comma a b)) given e bound = placed b e bound
place_behind (Node t ty (Assign a b)) given e bound = do
  place ← need given
  right ← answered b e bound
  stored_behind (Node t ty (Assign a b)) place right e bound
place_behind _ given e bound = wrong

-- of an operand by what it is for
abbrev pub behind : Operand → Option Value → Env → ℕ → Act (Option Value)
behind (O.First (A.Answer a)) given = answer_behind (view_expr a.now) given
behind (O.First (A.Place a)) given = place_behind (view_expr a.now) given
behind (O.Right a v) given = right_behind (view_expr a.now) v given
behind (O.Second a) given = second_behind (view_expr a.now) given
behind (O.Assigned (A.Answer a) place) given = assigned_behind (view_expr a.now) place given
behind (O.Assigned (A.Place a) place) given = stored_behind (view_expr a.now) place given
behind (O.Updated a place old) given = updated_behind (view_expr a.now) place old given

-- ---- calls, behind their arguments

unfoldable pub call_behind : Callee → List Value → Env → ℕ → Act (Option Value)
call_behind (C.Named symbol) vs e bound = do
  f ← need (function_named e.world.program (full_name e.home.name (view_symbol symbol.now)))
  call e.world (calls e.world bound) f vs
call_behind (C.Through token ty p) vs e bound = call_value e (calls e.world bound) token (view_type ty.now) p vs

-- ---- what is left of an expression

abbrev pub next_act : Next → Env → ℕ → Act (Option Value)
next_act (N.Gave given) e bound = give given
next_act (N.Ask asked) e bound = asked_act asked e bound
next_act (N.Behind asked operand) e bound = asked_act asked e bound >>= λ given. behind operand given e bound
next_act (N.Arguments args token callee) e bound = values_of (view_exprs args.now) token (calls e.world bound) e >>= λ vs. call_behind callee vs e bound
