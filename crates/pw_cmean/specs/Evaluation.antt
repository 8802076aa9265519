-- The meaning of expressions (ISO C90 6.3): operands from left to right, and each side effect at once.
use Rattle.std.specs.Prelude.{ℕ, pos, ◌%◌, Bool, false, not, nat_lt, Option, Some, None, is_none, option_map, option_and_then, List, [], ◌∷◌, slice_get}
use Rattle.std.specs.Option.{option_map_or}
use Rattle.std.specs.Str.{bytes_eq}
use Rattle.pw_value.specs.declared.value.Value.{Value}
use Rattle.pw_value.specs.declared.value.Value.TheVariants as V
use Rattle.pw_value.specs.declared.value.Pointer.TheVariants as P
use Rattle.pw_types.specs.StepOperators.{step_operator}
use Rattle.pw_types.specs.TypeTrees.{CType, Void, Int, Pointer, Record, QType, type_of, RecordValue}
use Rattle.pw_types.specs.WellTyped.{promoted_type}
use Rattle.pw_types.specs.declared.kind.IntKind.TheVariants as K
use Rattle.pw_types.specs.declared.tree.BinaryOperator.{BinaryOperator}
use Rattle.pw_types.specs.declared.tree.LogicOperator.{LogicOperator}
use Rattle.pw_types.specs.declared.tree.LogicOperator.TheVariants as L
use Rattle.pw_types.specs.declared.tree.StepOperator.{StepOperator}
use Rattle.pw_types.specs.declared.tree.StepOperator.TheVariants.{IncrementBefore, DecrementBefore, IncrementBehind, DecrementBehind}
use Rattle.pw_types.specs.TypedTrees.{Symbol, Hidden, Expression, Node, Number, Str, Local, Global, Function, Unary, Binary, Logic, Cond, Comma, Assign, Compound, Step, Cast, Decay, Member, Deref, Address, Call, CallValue, Expressions, NoExpression, OneExpression, type_at, LocalValue}
use Rattle.pw_cmean.specs.declared.undefined.Undef.TheVariants.{NotAFunction, FunctionShape, MissingResult}
use Rattle.pw_cmean.specs.Undefined.{◌when◌}
use Rattle.pw_cmean.specs.Worlds.{Program, ProgramModule, World, Callable, Body, Defined, Library, LibraryFunction, GetChar, PutChar, ExitRun, full_name, pointer_to, function_named, function_at, depth}
use Rattle.pw_cmean.specs.Acts.{Act, Site, StackFull, Exit, Bound, ◌>>=◌, ◌>>◌, give, stop, branch, look, need, judge, undefined, wrong, get_char, put_char}
use Rattle.pw_cmean.specs.Access.{Assigning, load, fetch, put}
use Rattle.pw_cmean.specs.Operators.{truth, number_for, unary, binary, convert, advance}
use Rattle.pw_types.specs.Shapes.{shape_of}

-- ---- where an expression stands

-- The world; the module, and the function's locals; and the number of the object that each local has, where it
-- is in scope.
pub record Env : Type 0 where
  pub world : World
  pub home : ProgramModule
  pub locals : List LocalValue
  pub numbers : List (Option ℕ)

-- a node of the module by its token
abbrev pub site : Env → ℕ → Site
site e token = record { home = e.home.name; token = token }

abbrev pub records_of : Env → List RecordValue
records_of e = e.home.tree.records

-- the place of a local that is in scope
unfoldable pub local_place : Env → ℕ → Act Value
local_place e k = need (option_map (λ number. V.At (P.Object number 0)) (option_and_then (λ n. n) (slice_get e.numbers k)))

-- the place of an object of static lifetime, or the function
unfoldable pub symbol_place : Env → Symbol → Act Value
symbol_place e symbol = need (option_map V.At (pointer_to e.world.program (full_name e.home.name symbol) 0))

-- ---- results

-- the result of an operand; a function may have returned none (6.6.6.4), which its operator meets
unfoldable pub used : Site → Option Value → Act Value
used at (Some v) = give v
used at None = undefined at MissingResult

-- the value of an lvalue at a place, by its type; what a pointer to void points to has none (6.2.2.1, 6.2.2.2)
unfoldable pub value_by : Site → CType → Value → Act (Option Value)
value_by at Void place = give None
value_by at ty place = do
  v ← fetch at ty place
  give (Some v)

unfoldable pub value_at : Env → ℕ → QType → Value → Act (Option Value)
value_at e token ty place = value_by (site e token) (type_of ty) place

-- what a conversion makes of an operand's result; to void there is none, nor need there be one (6.3.4)
unfoldable pub cast : Site → CType → Option Value → Act (Option Value)
cast at Void result = give None
cast at ty result = do
  v ← used at result
  w ← convert at ty v
  give (Some w)

-- ---- calls

-- A call of a function, with its arguments, gives its result.
abbrev pub Calling : Type 0
Calling = Callable → List Value → Act (Option Value)

-- The bound is the list of what calls do at each lower bound, the greatest first: its length is how many
-- calls, returns of loops to their tops and backward gotos there may be, one inside or after another.
abbrev pub Calls : Type 0
Calls = List Calling

unfoldable pub bounded_call : Calls → Calling
bounded_call [] f args = stop Bound
bounded_call (callee ∷ lower) f args = callee f args

-- the functions that would be active have room on the stack
unfoldable pub take_room : World → List ℕ → Act (Unit {0})
take_room world name = do
  active ← look (λ s. s.active)
  branch (nat_lt world.stack (depth world (name ∷ active))) (stop StackFull) (give tt)

-- the functions of the library (7.9.7.6, 7.9.7.9, 7.10.4.3)
unfoldable pub library_call : LibraryFunction → List Value → Act (Option Value)
library_call GetChar [] = do
  byte ← get_char
  give (Some (V.Num byte))
library_call PutChar (V.Num n ∷ []) = do
  put_char (n % 256)
  give (Some (V.Num (n % 256)))
library_call ExitRun (V.Num n ∷ []) = stop (Exit (n % 256))
library_call _ _ = wrong

-- The library's functions cost no bound.
unfoldable pub call_body : World → Calls → Body → Callable → List Value → Act (Option Value)
call_body world cs (Library g) f args = do
  take_room world f.name
  library_call g args
call_body world cs (Defined home definition) f args = bounded_call cs f args

unfoldable pub call : World → Calls → Callable → List Value → Act (Option Value)
call world cs f args = call_body world cs f.body f args

-- the function to which a pointer points
abbrev pub callee_of : Program → Value → Option Callable
callee_of program (V.At (P.Function number)) = function_at program number
callee_of program _ = None

-- the type to which a pointer points
abbrev pub pointed : CType → CType
pointed (Pointer q) = type_of q
pointed ty = ty

-- A call through a value is defined where the function has the shape of the call (6.3.2.2).
unfoldable pub call_value : Env → Calls → ℕ → CType → Value → List Value → Act (Option Value)
call_value e cs token ty p args = do
  judge (site e token) (NotAFunction when is_none (callee_of e.world.program p) ∷ FunctionShape when option_map_or (λ f. not (bytes_eq f.shape (shape_of (records_of e) (pointed ty) false))) (callee_of e.world.program p) false ∷ [])
  f ← need (callee_of e.world.program p)
  call e.world cs f args

-- ---- assignments

-- the value of an assignment is that of its left operand behind it: of a structure or union the place
abbrev pub assigned : CType → Value → Value → Value
assigned (Record number) place v = place
assigned _ place v = v

-- the old value of an lvalue in the type in which an operator works
unfoldable pub old_value : Env → ℕ → CType → CType → Value → Act Value
old_value e token ty working place = do
  v ← load (site e token) ty place
  convert (site e token) working v

-- the new value, behind the operator: converted to the lvalue's type and stored
unfoldable pub update : Env → ℕ → CType → CType → Value → BinaryOperator → CType → Value → Value → Act Value
update e token ty working place op right old w = do
  new ← binary (site e token) (records_of e) op working right old w
  v ← convert (site e token) ty new
  put Assigning (site e token) (records_of e) ty place v
  give v

-- behind its operand the value is the old one
abbrev pub step_result : StepOperator → Value → Value → Value
step_result IncrementBefore old new = new
step_result DecrementBefore old new = new
step_result IncrementBehind old new = old
step_result DecrementBehind old new = old

-- `++` and `--` add and subtract the int 1 (6.3.2.4, 6.3.3.1), in the promoted type
unfoldable pub step : Env → ℕ → StepOperator → CType → Value → Act Value
step e token op ty place = do
  old ← load (site e token) ty place
  v ← convert (site e token) (promoted_type ty) old
  new ← update e token ty (promoted_type ty) place (step_operator op) (Int K.Int) v (V.Num 1)
  give (step_result op old new)

-- ---- expressions

-- whether the first operand of `&&` or `||` decides (6.3.13, 6.3.14)
abbrev pub decides : LogicOperator → Bool → Bool
decides L.And holds = not holds
decides L.Or holds = holds

unfoldable mutual
  -- the result of an expression: None where it is void, or a function returned none
  pub answer_of : Expression → Calls → Env → Act (Option Value)
  answer_of (Node t ty (Number n)) cs e = give (Some (V.Num n))
  answer_of (Node t ty (Str k)) cs e = do
    place ← symbol_place e (Hidden k)
    value_at e t ty place
  answer_of (Node t ty (Local k)) cs e = do
    place ← local_place e k
    value_at e t ty place
  answer_of (Node t ty (Global symbol)) cs e = do
    place ← symbol_place e symbol
    value_at e t ty place
  answer_of (Node t ty (Function symbol)) cs e = do
    place ← symbol_place e symbol
    value_at e t ty place
  answer_of (Node t ty (Unary op a)) cs e = do
    v ← answer_of a cs e >>= used (site e t)
    result ← unary (site e t) op (type_of ty) v
    give (Some result)
  answer_of (Node t ty (Binary op a b)) cs e = do
    v ← answer_of a cs e >>= used (site e t)
    w ← answer_of b cs e >>= used (site e t)
    result ← binary (site e t) (records_of e) op (type_of (type_at a)) (type_of (type_at b)) v w
    give (Some result)
  answer_of (Node t ty (Logic op a b)) cs e = do
    first ← answer_of a cs e >>= used (site e t) >>= truth (site e t)
    branch (decides op first) (give (Some (V.Num (number_for first)))) (do
      second ← answer_of b cs e >>= used (site e t) >>= truth (site e t)
      give (Some (V.Num (number_for second))))
  answer_of (Node t ty (Cond c a b)) cs e = do
    holds ← answer_of c cs e >>= used (site e t) >>= truth (site e t)
    branch holds (answer_of a cs e) (answer_of b cs e)
  answer_of (Node t ty (Comma a b)) cs e = do
    dropped ← answer_of a cs e
    answer_of b cs e
  answer_of (Node t ty (Assign a b)) cs e = do
    place ← place_of a cs e
    v ← answer_of b cs e >>= used (site e t)
    put Assigning (site e t) (records_of e) (type_of (type_at a)) place v
    give (Some (assigned (type_of (type_at a)) place v))
  answer_of (Node t ty (Compound op working a b)) cs e = do
    place ← place_of a cs e
    old ← old_value e t (type_of (type_at a)) working place
    w ← answer_of b cs e >>= used (site e t)
    result ← update e t (type_of (type_at a)) working place op (type_of (type_at b)) old w
    give (Some result)
  answer_of (Node t ty (Step op a)) cs e = do
    place ← place_of a cs e
    result ← step e t op (type_of (type_at a)) place
    give (Some result)
  answer_of (Node t ty (Cast a)) cs e = answer_of a cs e >>= cast (site e t) (type_of ty)
  answer_of (Node t ty (Decay a)) cs e = do
    place ← place_of a cs e
    give (Some place)
  answer_of (Node t ty (Address a)) cs e = do
    place ← place_of a cs e
    give (Some place)
  answer_of (Node t ty (Member a offset)) cs e = do
    place ← place_of a cs e >>= λ p. advance (site e t) p (pos offset)
    value_at e t ty place
  answer_of (Node t ty (Deref a)) cs e = do
    place ← answer_of a cs e >>= used (site e t)
    value_at e t ty place
  answer_of (Node t ty (Call symbol args)) cs e = do
    vs ← values_of args t cs e
    f ← need (function_named e.world.program (full_name e.home.name symbol))
    call e.world cs f vs
  answer_of (Node t ty (CallValue a args)) cs e = do
    p ← answer_of a cs e >>= used (site e t)
    vs ← values_of args t cs e
    call_value e cs t (type_of (type_at a)) p vs

  -- the place that an lvalue denotes; of another structure or union its value, which is a place
  pub place_of : Expression → Calls → Env → Act Value
  place_of (Node t ty (Str k)) cs e = symbol_place e (Hidden k)
  place_of (Node t ty (Local k)) cs e = local_place e k
  place_of (Node t ty (Global symbol)) cs e = symbol_place e symbol
  place_of (Node t ty (Function symbol)) cs e = symbol_place e symbol
  place_of (Node t ty (Member a offset)) cs e = do
    place ← place_of a cs e
    advance (site e t) place (pos offset)
  place_of (Node t ty (Deref a)) cs e = answer_of a cs e >>= used (site e t)
  place_of (Node t ty (Cond c a b)) cs e = do
    holds ← answer_of c cs e >>= used (site e t) >>= truth (site e t)
    branch holds (place_of a cs e) (place_of b cs e)
  place_of (Node t ty (Comma a b)) cs e = do
    dropped ← answer_of a cs e
    place_of b cs e
  place_of (Node t ty (Assign a b)) cs e = do
    place ← place_of a cs e
    v ← answer_of b cs e >>= used (site e t)
    put Assigning (site e t) (records_of e) (type_of (type_at a)) place v
    give place
  place_of (Node t ty _) cs e = wrong

  -- the arguments of a call, whose node meets that one is missing
  pub values_of : Expressions → ℕ → Calls → Env → Act (List Value)
  values_of NoExpression token cs e = give []
  values_of (OneExpression a rest) token cs e = do
    v ← answer_of a cs e >>= used (site e token)
    vs ← values_of rest token cs e
    give (v ∷ vs)
