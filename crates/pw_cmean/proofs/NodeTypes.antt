-- Trees whose nodes have the types that C gives them, as far as values rest on it: what follows from well-typed
-- modules, in the form in which an induction over the trees goes through.
use Rattle.std.specs.Prelude.{ℕ, ◌≡◌, Option, Some, None, List, [], ◌∷◌, All}
use Rattle.pw_value.specs.declared.value.Value.TheVariants as V
use Rattle.pw_types.specs.TypeTrees.{CType, Void, Int, Pointer, Function as FunctionType, Qualified, type_of}
use Rattle.pw_types.specs.Conversions.{promoted}
use Rattle.pw_types.specs.Shapes.{letter_of}
use Rattle.pw_types.specs.declared.kind.IntKind.{IntKind}
use Rattle.pw_types.specs.declared.kind.IntKind.TheVariants as K
use Rattle.pw_types.specs.declared.tree.UnaryOperator.TheVariants.{Not}
use Rattle.pw_types.specs.declared.tree.BinaryOperator.{BinaryOperator}
use Rattle.pw_types.specs.declared.tree.BinaryOperator.TheVariants.{Less, Greater, LessEqual, GreaterEqual, Equal, NotEqual}
use Rattle.pw_types.specs.TypedTrees.{Expression, Node, Number, Str, Local, Global, Function, Unary, Binary, Logic, Cond, Comma, Assign, Compound, Step, Cast, Decay, Member, Deref, Address, Call, CallValue, Expressions, NoExpression, OneExpression, type_at, Initialiser, Value as ByValue, Bytes as ByBytes, Statement, Evaluate, Block, If, While, Do, For, Switch, Label, Return, Arms, NoArm, Arm, Otherwise, NoElse, Else, Statements, NoStatement, OneStatement}
use Rattle.pw_cmean.specs.Worlds.{Program, Callable, Body, Defined, Library, LibraryFunction, GetChar, PutChar, ExitRun, full_name, function_named, functions_of}
use Rattle.pw_types.specs.WellTyped.{IsPromoted, IsScalar}
use Rattle.pw_cmean.specs.Typed.{IsValueOf, result_letter}

-- ---- types

abbrev pub IsPointerType : CType → Type 0
IsPointerType (Pointer q) = Unit {0}
IsPointerType _ = ⊥

-- the type of what an operator gives for integers: of a comparison int, else that of its left operand
abbrev pub kind_given : BinaryOperator → IntKind → IntKind
kind_given Less kind = K.Int
kind_given Greater kind = K.Int
kind_given LessEqual kind = K.Int
kind_given GreaterEqual kind = K.Int
kind_given Equal kind = K.Int
kind_given NotEqual kind = K.Int
kind_given _ kind = kind

-- by the types of the operands, the type of what a binary operator gives (6.3.5 to 6.3.12)
abbrev pub BinaryGives : BinaryOperator → CType → CType → CType → Type 0
BinaryGives op (Int a) (Int b) result = (promoted a ≡ a) × (result ≡ Int (kind_given op a))
BinaryGives op (Pointer a) (Int b) result = IsPointerType result
BinaryGives op (Int a) (Pointer b) result = IsPointerType result
BinaryGives op (Pointer a) (Pointer b) result = result ≡ Int K.Int
BinaryGives op _ _ result = ⊥

-- the types of a compound assignment: that in which it works, that of the lvalue, that of the right operand (6.3.16.2)
abbrev pub CanUpdate : CType → CType → CType → Type 0
CanUpdate (Int a) (Int b) (Int c) = Unit {0}
CanUpdate (Pointer a) (Pointer b) (Int c) = Unit {0}
CanUpdate _ _ _ = ⊥

-- a conversion from a type to another (6.3.4)
abbrev pub CanCast : CType → CType → Type 0
CanCast from Void = Unit {0}
CanCast (Int a) (Int b) = Unit {0}
CanCast (Int a) (Pointer b) = Unit {0}
CanCast (Pointer a) (Pointer b) = Unit {0}
CanCast _ _ = ⊥

-- a pointer to a function with the result
abbrev pub Calls : CType → CType → Type 0
Calls (Pointer (Qualified (FunctionType q params) constant volatile)) result = type_of q ≡ result
Calls _ result = ⊥

-- ---- typed trees, in a module of a program

abbrev mutual
  pub IsTyped : Program → List ℕ → Expression → Type 0
  IsTyped p home (Node t ty (Number n)) = IsValueOf (type_of ty) (V.Num n)
  IsTyped p home (Node t ty (Str k)) = Unit {0}
  IsTyped p home (Node t ty (Local k)) = Unit {0}
  IsTyped p home (Node t ty (Global s)) = Unit {0}
  IsTyped p home (Node t ty (Function s)) = Unit {0}
  IsTyped p home (Node t ty (Unary Not a)) = IsTyped p home a × (type_of ty ≡ Int K.Int)
  IsTyped p home (Node t ty (Unary op a)) = IsTyped p home a × IsPromoted (type_of ty)
  IsTyped p home (Node t ty (Binary op a b)) =
      IsTyped p home a × IsTyped p home b × BinaryGives op (type_of (type_at a)) (type_of (type_at b)) (type_of ty)
  IsTyped p home (Node t ty (Logic op a b)) = IsTyped p home a × IsTyped p home b × (type_of ty ≡ Int K.Int)
  IsTyped p home (Node t ty (Cond c a b)) =
      IsTyped p home c × IsTyped p home a × IsTyped p home b × (type_of (type_at a) ≡ type_of ty) × (type_of (type_at b) ≡ type_of ty)
  IsTyped p home (Node t ty (Comma a b)) = IsTyped p home a × IsTyped p home b × (type_of (type_at b) ≡ type_of ty)
  IsTyped p home (Node t ty (Assign a b)) =
      IsTyped p home a × IsTyped p home b × (type_of (type_at a) ≡ type_of ty) × (type_of (type_at b) ≡ type_of ty)
  IsTyped p home (Node t ty (Compound op working a b)) =
      IsTyped p home a × IsTyped p home b × CanUpdate working (type_of ty) (type_of (type_at b)) × (type_of (type_at a) ≡ type_of ty)
  IsTyped p home (Node t ty (Step op a)) = IsTyped p home a × IsScalar (type_of ty) × (type_of (type_at a) ≡ type_of ty)
  IsTyped p home (Node t ty (Cast a)) = IsTyped p home a × CanCast (type_of (type_at a)) (type_of ty)
  IsTyped p home (Node t ty (Decay a)) = IsTyped p home a × IsPointerType (type_of ty)
  IsTyped p home (Node t ty (Address a)) = IsTyped p home a × IsPointerType (type_of ty)
  IsTyped p home (Node t ty (Member a offset)) = IsTyped p home a
  IsTyped p home (Node t ty (Deref a)) = IsTyped p home a × IsPointerType (type_of (type_at a))
  IsTyped p home (Node t ty (Call s args)) =
      AreTyped p home args × ((f : Callable) → function_named p (full_name home s) ≡ Some f → letter_of (type_of ty) ≡ result_letter f.shape)
  IsTyped p home (Node t ty (CallValue a args)) = IsTyped p home a × AreTyped p home args × Calls (type_of (type_at a)) (type_of ty)

  pub AreTyped : Program → List ℕ → Expressions → Type 0
  AreTyped p home NoExpression = Unit {0}
  AreTyped p home (OneExpression a rest) = IsTyped p home a × AreTyped p home rest

-- an expression that may be left out
abbrev pub IsTypedIfAny : Program → List ℕ → Option Expression → Type 0
IsTypedIfAny p home None = Unit {0}
IsTypedIfAny p home (Some a) = IsTyped p home a

abbrev pub AreTypedInitialisers : Program → List ℕ → List Initialiser → Type 0
AreTypedInitialisers p home [] = Unit {0}
AreTypedInitialisers p home (ByValue k a ∷ rest) = IsTyped p home a × AreTypedInitialisers p home rest
AreTypedInitialisers p home (ByBytes k hidden parts ∷ rest) = AreTypedInitialisers p home rest

-- a statement of a function whose result has a letter
abbrev mutual
  pub IsTypedStatement : Program → List ℕ → ℕ → Statement → Type 0
  IsTypedStatement p home letter (Evaluate t a) = IsTyped p home a
  IsTypedStatement p home letter (Block t first count initialisers items) =
      AreTypedInitialisers p home initialisers × AreTypedStatements p home letter items
  IsTypedStatement p home letter (If t arms otherwise) = AreTypedArms p home letter arms × IsTypedElse p home letter otherwise
  IsTypedStatement p home letter (While t c body) = IsTyped p home c × IsTypedStatement p home letter body
  IsTypedStatement p home letter (Do t body c) = IsTypedStatement p home letter body × IsTyped p home c
  IsTypedStatement p home letter (For t first c third body) =
      IsTypedIfAny p home first × IsTypedIfAny p home c × IsTypedIfAny p home third × IsTypedStatement p home letter body
  IsTypedStatement p home letter (Switch t a cases default body) = IsTyped p home a × IsTypedStatement p home letter body
  IsTypedStatement p home letter (Label t labels body) = IsTypedStatement p home letter body
  IsTypedStatement p home letter (Return t (Some a)) = IsTyped p home a × (letter_of (type_of (type_at a)) ≡ letter)
  IsTypedStatement p home letter _ = Unit {0}

  pub AreTypedStatements : Program → List ℕ → ℕ → Statements → Type 0
  AreTypedStatements p home letter NoStatement = Unit {0}
  AreTypedStatements p home letter (OneStatement s rest) = IsTypedStatement p home letter s × AreTypedStatements p home letter rest

  pub AreTypedArms : Program → List ℕ → ℕ → Arms → Type 0
  AreTypedArms p home letter NoArm = Unit {0}
  AreTypedArms p home letter (Arm t c s rest) = IsTyped p home c × IsTypedStatement p home letter s × AreTypedArms p home letter rest

  pub IsTypedElse : Program → List ℕ → ℕ → Otherwise → Type 0
  IsTypedElse p home letter NoElse = Unit {0}
  IsTypedElse p home letter (Else s) = IsTypedStatement p home letter s

-- the letter of a library function's result
abbrev pub library_letter : LibraryFunction → ℕ
library_letter GetChar = 105
library_letter PutChar = 105
library_letter ExitRun = 118

-- a function whose body gives results of its shape's type
abbrev pub IsTypedBody : Program → List ℕ → Body → Type 0
IsTypedBody p shape (Defined m f) = IsTypedStatement p m.name (result_letter shape) f.body
IsTypedBody p shape (Library g) = result_letter shape ≡ library_letter g

abbrev pub IsTypedCallable : Program → Callable → Type 0
IsTypedCallable p f = IsTypedBody p f.shape f.body

abbrev pub IsTypedProgram : Program → Type 0
IsTypedProgram p = All (IsTypedCallable p) (functions_of p)
