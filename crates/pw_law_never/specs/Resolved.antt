-- What the meaning of a program rests on beside types: each local that is named is in scope, each symbol is defined, and a
-- number that becomes a pointer is the constant 0 (ISO C90 6.1.2.1, 6.3.4, 6.7).
use Rattle.std.specs.Prelude.{ℕ, ◌≡◌, ◌<◌, ◌⊎◌, true, Option, Some, List, Contains}
use Rattle.std.specs.List.{AllByRecursion}
use Rattle.pw_value.specs.declared.value.Pointer.{Pointer as AnyPointer}
use Rattle.pw_value.specs.ProgramNames.{main_name, main_shape}
use Rattle.pw_types.specs.TypeTrees.{CType, Int, Pointer, Record, QType, type_of}
use Rattle.pw_types.specs.WellTyped.{type_in, IsScalar}
use Rattle.pw_types.specs.declared.kind.IntKind.{IntKind}
use Rattle.pw_types.specs.TypedTrees.{Symbol, Expression, Node, Number, Str, Local, Global, Function, Unary, Binary, Logic, Cond, Comma, Assign, Compound, Step, Cast, Decay, Member, Deref, Address, Call, CallValue, Expressions, NoExpression, OneExpression, Initialiser, Value as ByValue, Bytes as ByBytes, Statement, Arms, Otherwise, Statements, FunctionValue}
use Rattle.pw_check_rules.specs.Constants.{is_zero_constant}
use Rattle.pw_cmean.specs.Worlds.{Program, ProgramModule, Callable, full_name, pointer_to, function_named}
use Rattle.pw_law_never.specs.Scopes.{InScopeIfAny, InScopes, AllInScopes, ArmsInScopes, ElseInScopes}

-- ---- symbols of a module of a program, by the module's name

-- an object or a function
abbrev pub IsThere : Program → List ℕ → Symbol → Type 0
IsThere p home symbol = (q : AnyPointer) × (pointer_to p (full_name home symbol) 0 ≡ Some q)

abbrev pub IsFunctionThere : Program → List ℕ → Symbol → Type 0
IsFunctionThere p home symbol = (f : Callable) × (function_named p (full_name home symbol) ≡ Some f)

-- ---- expressions, with the locals that are in scope

-- of the numbers only the constant 0 becomes a pointer (6.2.2.3)
abbrev pub IsNullIn : CType → Expression → Type 0
IsNullIn to a = (q : QType) (kind : IntKind) → to ≡ Pointer q → type_in a ≡ Int kind → is_zero_constant a ≡ true

abbrev mutual
  pub IsResolved : Program → List ℕ → (ℕ → Type 0) → Expression → Type 0
  IsResolved p home scope (Node t ty (Number n)) = Unit {0}
  IsResolved p home scope (Node t ty (Str k)) = Unit {0}
  IsResolved p home scope (Node t ty (Local k)) = scope k
  IsResolved p home scope (Node t ty (Global symbol)) = IsThere p home symbol
  IsResolved p home scope (Node t ty (Function symbol)) = IsThere p home symbol
  IsResolved p home scope (Node t ty (Unary op a)) = IsResolved p home scope a
  IsResolved p home scope (Node t ty (Binary op a b)) = IsResolved p home scope a × IsResolved p home scope b
  IsResolved p home scope (Node t ty (Logic op a b)) = IsResolved p home scope a × IsResolved p home scope b
  IsResolved p home scope (Node t ty (Cond c a b)) = IsResolved p home scope c × IsResolved p home scope a × IsResolved p home scope b
  IsResolved p home scope (Node t ty (Comma a b)) = IsResolved p home scope a × IsResolved p home scope b
  IsResolved p home scope (Node t ty (Assign a b)) = IsResolved p home scope a × IsResolved p home scope b
  IsResolved p home scope (Node t ty (Compound op working a b)) = IsResolved p home scope a × IsResolved p home scope b
  IsResolved p home scope (Node t ty (Step op a)) = IsResolved p home scope a
  IsResolved p home scope (Node t ty (Cast a)) = IsNullIn (type_of ty) a × IsResolved p home scope a
  IsResolved p home scope (Node t ty (Decay a)) = IsResolved p home scope a
  IsResolved p home scope (Node t ty (Address a)) = IsResolved p home scope a
  IsResolved p home scope (Node t ty (Member a offset)) = IsResolved p home scope a
  IsResolved p home scope (Node t ty (Deref a)) = IsResolved p home scope a
  IsResolved p home scope (Node t ty (Call symbol args)) = IsFunctionThere p home symbol × AreResolved p home scope args
  IsResolved p home scope (Node t ty (CallValue a args)) = IsResolved p home scope a × AreResolved p home scope args

  pub AreResolved : Program → List ℕ → (ℕ → Type 0) → Expressions → Type 0
  AreResolved p home scope NoExpression = Unit {0}
  AreResolved p home scope (OneExpression a rest) = IsResolved p home scope a × AreResolved p home scope rest

-- ---- statements

-- what a local is initialised with: a scalar, a structure or a union (6.5.7), or the bytes of a hidden object
abbrev pub IsInitialising : CType → Type 0
IsInitialising ty = IsScalar ty ⊎ ((number : ℕ) × (ty ≡ Record number))

abbrev pub IsResolvedInitialiser : Program → List ℕ → (ℕ → Type 0) → Initialiser → Type 0
IsResolvedInitialiser p home scope (ByValue k a) = IsResolved p home scope a × IsInitialising (type_in a)
IsResolvedInitialiser p home scope (ByBytes k hidden parts) = Unit {0}

abbrev pub IsResolvedIfAny : Program → List ℕ → (ℕ → Type 0) → Option Expression → Type 0
IsResolvedIfAny p home scope a = InScopeIfAny (IsResolved p home) scope a

abbrev pub AreResolvedInitialisers : Program → List ℕ → (ℕ → Type 0) → List Initialiser → Type 0
AreResolvedInitialisers p home scope all = AllByRecursion (IsResolvedInitialiser p home scope) all

abbrev pub IsResolvedStatement : Program → List ℕ → (ℕ → Type 0) → Statement → Type 0
IsResolvedStatement p home scope s = InScopes (IsResolved p home) (IsResolvedInitialiser p home) scope s

abbrev pub AreResolvedStatements : Program → List ℕ → (ℕ → Type 0) → Statements → Type 0
AreResolvedStatements p home scope all = AllInScopes (IsResolved p home) (IsResolvedInitialiser p home) scope all

abbrev pub AreResolvedArms : Program → List ℕ → (ℕ → Type 0) → Arms → Type 0
AreResolvedArms p home scope arms = ArmsInScopes (IsResolved p home) (IsResolvedInitialiser p home) scope arms

abbrev pub IsResolvedElse : Program → List ℕ → (ℕ → Type 0) → Otherwise → Type 0
IsResolvedElse p home scope o = ElseInScopes (IsResolved p home) (IsResolvedInitialiser p home) scope o

-- ---- programs

-- The bodies of functions, in which the parameters are in scope; and there is a `main`, which takes nothing and gives an
-- int.
pub record IsResolvedProgram (p : Program) : Type 0 where
  pub bodies : (m : ProgramModule) (f : FunctionValue) → Contains p.modules m → Contains m.tree.functions f
      → IsResolvedStatement p m.name (λ k. k < f.params) f.body
  pub main : (f : Callable) × (function_named p main_name ≡ Some f) × (f.shape ≡ main_shape)
