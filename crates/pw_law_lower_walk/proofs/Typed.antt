-- That a tree is well typed goes over to its parts.
use Rattle.std.proofs.Common.{ℕ, ◌+◌, Bool, true, Option, Some, None, List, [], ◌∷◌}
use Rattle.std.specs.List.{AllByRecursion}
use Rattle.std.proofs.lemmas.List.Elements.{recursion_from_All}
use Rattle.pw_types.specs.TypeTrees.{QType, QTypes, NoType, OneType}
use Rattle.pw_types.specs.TypedTrees.{Expression, Form, Node, Expressions, NoExpression, OneExpression, Initialiser, Statement, Evaluate, Block, If, While, Do, For, Switch, Label, Return, Arms, NoArm, Arm, Otherwise, NoElse, Else, Statements, NoStatement, OneStatement, LocalValue, FunctionValue, ModuleValue}
use Rattle.pw_types.specs.TypedTrees as T
use Rattle.pw_types.specs.TypedModules.{Initialises, IsStatement, AreStatements, AreArms, IsElse, Returns}
use Rattle.pw_types.specs.WellTyped.{IsTyped, AreArguments, IsTypedOrAbsent, IsConditionOrAbsent}
use Rattle.pw_law_lower_walk.specs.Parts.{EachExpression, Parts, IfAny, EachStatement, EachArm, InElse, StatementParts}

-- ---- expressions

module _ (m : ModuleValue) (locals : List LocalValue) where
  arguments_typed : (args : Expressions) (params : QTypes) → AreArguments m locals args params → EachExpression (IsTyped m locals) args
  unfolding IsTyped
  arguments_typed NoExpression params w = tt
  arguments_typed (OneExpression e rest) NoType w = absurd w
  arguments_typed (OneExpression e rest) (OneType q qs) w = (w.0, arguments_typed rest qs w.3)

  pub typed_parts : (t : ℕ) (y : QType) (form : Form) → IsTyped m locals (Node t y form) → Parts (IsTyped m locals) form
  unfolding IsTyped
  typed_parts t y (T.Unary o a) w = w.1.0
  typed_parts t y (T.Binary o a b) w = (w.1.0, w.1.1)
  typed_parts t y (T.Logic o a b) w = (w.1.0, w.1.1)
  typed_parts t y (T.Cond a b c) w = (w.1.0, w.1.1, w.1.2)
  typed_parts t y (T.Comma a b) w = (w.1.0, w.1.1)
  typed_parts t y (T.Assign a b) w = (w.1.0, w.1.1)
  typed_parts t y (T.Compound o working a b) w = (w.1.0, w.1.1)
  typed_parts t y (T.Step o a) w = w.1.0
  typed_parts t y (T.Cast a) w = w.1.0
  typed_parts t y (T.Decay a) w = w.1.0
  typed_parts t y (T.Member a offset) w = w.1.0
  typed_parts t y (T.Deref a) w = w.1.0
  typed_parts t y (T.Address a) w = w.1.0
  typed_parts t y (T.Call s args) w = arguments_typed args w.1.1 w.1.5
  typed_parts t y (T.CallValue a args) w = (w.1.0, arguments_typed args w.1.1.1 w.1.1.7)
  typed_parts t y leaf w = tt

-- ---- statements, wherever they stand

module _ (m : ModuleValue) (f : FunctionValue) where
  abbrev pub IsTypedInitialiser : Initialiser → Type 0
  IsTypedInitialiser i = (first : ℕ) × (count : ℕ) × Initialises m f.locals first count i

  abbrev pub IsTypedStatement : Statement → Type 0
  IsTypedStatement s = (breaks : Bool) × (continues : Bool) × (from : ℕ) × IsStatement m f breaks continues from s

  initialisers_typed : (first count : ℕ) (all : List Initialiser) → AllByRecursion (Initialises m f.locals first count) all → AllByRecursion IsTypedInitialiser all
  initialisers_typed first count [] w = tt
  initialisers_typed first count (i ∷ rest) w = ((first, count, w.0), initialisers_typed first count rest w.1)

  absent_typed : (e : Option Expression) → IsTypedOrAbsent m f.locals e → IfAny (IsTyped m f.locals) e
  absent_typed None w = tt
  absent_typed (Some e) w = w

  condition_typed : (e : Option Expression) → IsConditionOrAbsent m f.locals e → IfAny (IsTyped m f.locals) e
  condition_typed None w = tt
  condition_typed (Some e) w = w.0

  returned_typed : (e : Option Expression) → Returns m f e → IfAny (IsTyped m f.locals) e
  returned_typed None w = tt
  returned_typed (Some e) w = w.0

  statements_typed : (b k : Bool) (from : ℕ) (all : Statements) → AreStatements m f b k from all → EachStatement IsTypedStatement all
  unfolding IsStatement
  statements_typed b k from NoStatement w = tt
  statements_typed b k from (OneStatement s rest) w = ((b, k, from, w.0), statements_typed b k from rest w.1)

  arms_typed : (b k : Bool) (from : ℕ) (arms : Arms) → AreArms m f b k from arms → EachArm (IsTyped m f.locals) IsTypedStatement arms
  unfolding IsStatement
  arms_typed b k from NoArm w = tt
  arms_typed b k from (Arm t e s rest) w = (w.0.0, (b, k, from, w.1), arms_typed b k from rest w.2)

  else_typed : (b k : Bool) (from : ℕ) (o : Otherwise) → IsElse m f b k from o → InElse IsTypedStatement o
  unfolding IsStatement
  else_typed b k from NoElse w = tt
  else_typed b k from (Else s) w = (b, k, from, w)

  typed_by : (b k : Bool) (from : ℕ) (s : Statement) → IsStatement m f b k from s → StatementParts (IsTyped m f.locals) IsTypedInitialiser IsTypedStatement IsTypedStatement s
  unfolding IsStatement
  typed_by b k from (Evaluate t e) w = w
  typed_by b k from (Block t first count initialisers items) w =
      (initialisers_typed first count initialisers (recursion_from_All (Initialises m f.locals first count) initialisers w.2), statements_typed b k (first + count) items w.3)
  typed_by b k from (If t arms otherwise) w = (arms_typed b k from arms w.1, else_typed b k from otherwise w.2)
  typed_by b k from (While t e body) w = (w.0.0, (true, true, from, w.1))
  typed_by b k from (Do t body e) w = (w.0.0, (true, true, from, w.1))
  typed_by b k from (For t first e third body) w = (absent_typed first w.0, condition_typed e w.1, absent_typed third w.2, (true, true, from, w.3))
  typed_by b k from (Switch t e cases default body) w = (w.0, (true, k, from, w.2))
  typed_by b k from (Label t labels body) w = (b, k, from, w.1)
  typed_by b k from (Return t e) w = returned_typed e w
  typed_by b k from leaf w = tt

  pub typed_statement : (s : Statement) → IsTypedStatement s → StatementParts (IsTyped m f.locals) IsTypedInitialiser IsTypedStatement IsTypedStatement s
  typed_statement s w = typed_by w.0 w.1 w.2 s w.3
