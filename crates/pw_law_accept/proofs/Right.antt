-- The code of a function names objects as objects and functions as functions, as far as the module says: well-typed trees
-- whose nodes name objects are what the walk over lowered code asks.
use Rattle.std.proofs.Common.{ℕ, false, List, refl, inl}
use Rattle.std.specs.List.{AllByRecursion}
use Rattle.pw_types.specs.FullNames.{full_name}
use Rattle.pw_types.specs.TypeTrees.{Function as FunctionType, QType, Qualified}
use Rattle.pw_types.specs.TypedTrees.{Symbol, External, Internal, Hidden, Expression, Form, Node, Expressions, NoExpression, OneExpression, Initialiser, Value, Bytes, Statement, LocalValue, FunctionValue, ModuleValue}
use Rattle.pw_types.specs.TypedTrees as T
use Rattle.pw_types.specs.TypedModules.{Initialises, IsStatement}
use Rattle.pw_types.specs.WellTyped.{IsObject, IsTyped}
use Rattle.pw_flow.specs.declared.flow.Op.{Op}
use Rattle.pw_flow.specs.declared.flow.Op.TheVariants as op
use Rattle.pw_lower.specs.Modules.{lowered_function}
use Rattle.pw_law_checked.specs.Designators.{NamesObjects, AllNameObjects, InitialiserNamesObjects, StatementNamesObjects}
use Rattle.pw_law_lower_walk.specs.Parts.{EachExpression, Parts, StatementParts}
use Rattle.pw_law_lower_walk.specs.Given.{OfObject}
use Rattle.pw_law_lower_walk.specs.Named.{IsNameless, NameIn, InitialiserParts}
use Rattle.pw_law_lower_walk.proofs.Both.{both_parts, both_statement}
use Rattle.pw_law_lower_walk.proofs.Folds.{statement_parts}
use Rattle.pw_law_lower_walk.proofs.Named.{each_operation}
use Rattle.pw_law_lower_walk.proofs.Typed.{typed_parts, IsTypedInitialiser, IsTypedStatement, typed_statement}
use Rattle.pw_law_accept.specs.References.{NamesObject, RefersRightly}

-- ---- operations

module _ (m : ModuleValue) (home : List ℕ) where
  nameless_right : (o : Op) → IsNameless o → RefersRightly m home o
  nameless_right (op.AddrGlobal t g n) h = absurd h
  nameless_right (op.AddrFn t f) h = absurd h
  nameless_right (op.LoadG t g k) h = absurd h
  nameless_right (op.StoreG g a k) h = absurd h
  nameless_right (op.Call t f args) h = absurd h
  nameless_right o h = tt

  object_right : (g : List ℕ) → NamesObject m home g → OfObject (RefersRightly m home) g
  object_right g n = record { address = λ t. n; read = λ t k. n; written = λ a k. n }

  -- a symbol of an object
  object_named : (s : Symbol) (t : ℕ) (y : QType) → IsObject m s y → NamesObjects (Node t y (T.Global s)) → NamesObject m home (full_name home s)
  object_named (External x) t y is n = record { symbol = External x; ty = y; is = is; object = n; named = refl }
  object_named (Internal x) t y is n = record { symbol = Internal x; ty = y; is = is; object = tt; named = refl }
  object_named (Hidden k) t y is n = record { symbol = Hidden k; ty = y; is = is; object = tt; named = refl }

-- ---- expressions

module _ (m : ModuleValue) (locals : List LocalValue) where
  abbrev pub IsRight : Expression → Type 0
  IsRight e = IsTyped m locals e × NamesObjects e

  arguments_named : (args : Expressions) → AllNameObjects args → EachExpression NamesObjects args
  arguments_named NoExpression n = tt
  arguments_named (OneExpression e rest) n = (n.0, arguments_named rest n.1)

  -- as `HasObjects` says of the forms that have parts
  parts_named : (t : ℕ) (y : QType) (form : Form) → NamesObjects (Node t y form) → Parts NamesObjects form
  parts_named t y (T.Number k) n = tt
  parts_named t y (T.Str k) n = tt
  parts_named t y (T.Local k) n = tt
  parts_named t y (T.Global s) n = tt
  parts_named t y (T.Function s) n = tt
  parts_named t y (T.Call s args) n = arguments_named args n
  parts_named t y (T.CallValue a args) n = (n.0, arguments_named args n.1)
  parts_named t y form n = n

  parts_right : (t : ℕ) (y : QType) (form : Form) → IsRight (Node t y form) → Parts IsRight form
  parts_right t y form w = both_parts (IsTyped m locals) NamesObjects form (typed_parts m locals t y form w.0) (parts_named t y form w.1)

  names_right : (home : List ℕ) (t : ℕ) (y : QType) (form : Form) → IsRight (Node t y form) → NameIn (RefersRightly m home) home form
  unfolding IsTyped
  names_right home t y (T.Str k) w = let v = w.0.1 in object_right m home (full_name home (Hidden k)) (record { symbol = Hidden k; ty = y; is = v.0; object = tt; named = refl })
  names_right home t y (T.Global s) w = object_right m home (full_name home s) (object_named m home s t y w.0.1 w.1)
  names_right home t y (T.Function s) w = let v = w.0.1 in λ r. record { symbol = s; ty = y; function = v.0; is = v.1; named = refl }
  names_right home t y (T.Call s args) w =
      let v = w.0.1 in
      λ r temps. record { symbol = s; ty = Qualified (FunctionType v.0 v.1) false false; function = (v.0, v.1, refl); is = v.2; named = refl }
  names_right home t y form w = tt

-- ---- statements

module _ (m : ModuleValue) (f : FunctionValue) where
  abbrev IsRightInitialiser : Initialiser → Type 0
  IsRightInitialiser i = IsTypedInitialiser m f i × InitialiserNamesObjects i

  abbrev IsRightStatement : Statement → Type 0
  IsRightStatement s = IsTypedStatement m f s × StatementNamesObjects s

  initialiser_right : (home : List ℕ) (i : Initialiser) → IsRightInitialiser i → InitialiserParts (RefersRightly m home) home (IsRight m f.locals) i
  initialiser_right home (Value k e) w = let v : Initialises m f.locals w.0.0 w.0.1 (Value k e) = w.0.2 in (v.2, w.1)
  initialiser_right home (Bytes k hidden parts) w =
      let v : Initialises m f.locals w.0.0 w.0.1 (Bytes k hidden parts) = w.0.2 in
      let o = v.2 in
      object_right m home (full_name home (Hidden hidden)) (record { symbol = Hidden hidden; ty = o.1.ty; is = record { object = o.1; there = o.3; name_is = o.4; agrees = inl refl }; object = tt; named = refl })

  statement_right : (s : Statement) → IsRightStatement s → StatementParts (IsRight m f.locals) IsRightInitialiser IsRightStatement IsRightStatement s
  statement_right s w =
      both_statement (IsTyped m f.locals) NamesObjects (IsTypedInitialiser m f) InitialiserNamesObjects (IsTypedStatement m f) StatementNamesObjects s
      (typed_statement m f s w.0) (statement_parts NamesObjects InitialiserNamesObjects s w.1)

  pub function_right : (home : List ℕ) → IsStatement m f false false f.params f.body → StatementNamesObjects f.body
      → AllByRecursion (λ b. AllByRecursion (RefersRightly m home) b.ops) (lowered_function home m.records f).blocks
  function_right home w n =
      each_operation (RefersRightly m home) (nameless_right m home) home (IsRight m f.locals) (parts_right m f.locals) (names_right m f.locals home)
      IsRightInitialiser (initialiser_right home) IsRightStatement statement_right m.records f ((false, false, f.params, w), n)
