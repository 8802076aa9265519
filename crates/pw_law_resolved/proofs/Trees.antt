-- Trees whose locals are in scope, whose names are there and whose numbers become pointers as 0 alone are resolved.
use Rattle.std.proofs.Common.{◌≡◌, ℕ, ap, Option, Some, None, List, [], ◌∷◌}
use Rattle.std.specs.Prelude.{Contains}
use Rattle.std.specs.List.{AllByRecursion}
use Rattle.pw_value.specs.declared.value.Pointer.TheVariants as Ptr
use Rattle.pw_types.specs.Kinds.{is_integral, is_pointer}
use Rattle.pw_types.specs.TypeTrees.{CType, type_of, RecordValue}
use Rattle.pw_types.specs.TypedTrees.{Expression, Node, Number, Str, Local, Global, Function, Unary, Binary, Logic, Cond, Comma, Assign, Compound, Step, Cast, Decay, Member, Deref, Address, Call, CallValue, Expressions, NoExpression, OneExpression, Initialiser, Statement, Arms, NoArm, Arm, Otherwise, NoElse, Else, Statements, NoStatement, OneStatement}
use Rattle.pw_types.specs.TypedTrees as T
use Rattle.pw_types.specs.FullNames.{full_name}
use Rattle.pw_cmean.specs.Worlds.{Program, Callable, function_named, global_number}
use Rattle.pw_law_lower_walk.specs.Parts.{IfAny}
use Rattle.pw_law_lower_walk.specs.Folds.{EachNode, EachNodeAmong, InStatement, InStatements, InArms, InOtherwise}
use Rattle.pw_law_lower_walk.specs.Named.{NodeAmong, InitialiserAmong, StatementAmong}
use Rattle.pw_law_checked.specs.Bounded.{IsBounded, AreBounded, IsBoundedIn, IsBoundedStatement, IsNullTo}
use Rattle.pw_law_scopes.specs.Scoped.{IsScoped, AreScoped, IsScopedInitialiser, IsScopedStatement}
use Rattle.pw_law_never.specs.Scopes.{with_range, InScopeIfAny, InScopes, AllInScopes, ArmsInScopes, ElseInScopes}
use Rattle.pw_law_never.specs.Resolved.{IsNullIn, IsResolved, AreResolved, IsResolvedInitialiser, IsResolvedStatement}
use Rattle.pw_law_never.proofs.Symbols.{object-placed}
use Rattle.pw_law_resolved.proofs.Symbols.{function_placed}

-- ---- statements, by what is said of their expressions and initialisers with a scope, and twice without one

module _ (N : (ℕ → Type 0) → Expression → Type 0) (I : (ℕ → Type 0) → Initialiser → Type 0) (A : Expression → Type 0) (J : Initialiser → Type 0) (B : Expression → Type 0) (K : Initialiser → Type 0) (M : (ℕ → Type 0) → Expression → Type 0) (L : (ℕ → Type 0) → Initialiser → Type 0) (give : (scope : ℕ → Type 0) (e : Expression) → N scope e → A e → B e → M scope e) (initialise : (scope : ℕ → Type 0) (i : Initialiser) → I scope i → J i → K i → L scope i) where
  any_of : (scope : ℕ → Type 0) (o : Option Expression) → InScopeIfAny N scope o → IfAny A o → IfAny B o → InScopeIfAny M scope o
  any_of scope None s a b = tt
  any_of scope (Some e) s a b = give scope e s a b

  initialisers_of : (scope : ℕ → Type 0) (is : List Initialiser) → AllByRecursion (I scope) is → AllByRecursion J is → AllByRecursion K is → AllByRecursion (L scope) is
  initialisers_of scope [] s a b = tt
  initialisers_of scope (i ∷ is) s a b = (initialise scope i s.0 a.0 b.0, initialisers_of scope is s.1 a.1 b.1)

  mutual
    pub statement_of : (scope : ℕ → Type 0) (x : Statement) → InScopes N I scope x → InStatement A J x → InStatement B K x → InScopes M L scope x
    statement_of scope (T.Evaluate t e) s a b = give scope e s a b
    statement_of scope (T.Block t first count initialisers items) s a b =
        (initialisers_of (with_range first count scope) initialisers s.0 a.0 b.0, statements_of (with_range first count scope) items s.1 a.1 b.1)
    statement_of scope (T.If t arms otherwise) s a b = (arms_of scope arms s.0 a.0 b.0, else_of scope otherwise s.1 a.1 b.1)
    statement_of scope (T.While t e body) s a b = (give scope e s.0 a.0 b.0, statement_of scope body s.1 a.1 b.1)
    statement_of scope (T.Do t body e) s a b = (statement_of scope body s.0 a.1 b.1, give scope e s.1 a.0 b.0)
    statement_of scope (T.For t first e third body) s a b =
        (any_of scope first s.0 a.0 b.0, any_of scope e s.1 a.1 b.1, any_of scope third s.2 a.2 b.2, statement_of scope body s.3 a.3 b.3)
    statement_of scope (T.Switch t e cases default body) s a b = (give scope e s.0 a.0 b.0, statement_of scope body s.1 a.1 b.1)
    statement_of scope (T.Label t labels body) s a b = statement_of scope body s a b
    statement_of scope (T.Return t e) s a b = any_of scope e s a b
    statement_of scope _ s a b = tt

    statements_of : (scope : ℕ → Type 0) (all : Statements) → AllInScopes N I scope all → InStatements A J all → InStatements B K all → AllInScopes M L scope all
    statements_of scope NoStatement s a b = tt
    statements_of scope (OneStatement x rest) s a b = (statement_of scope x s.0 a.0 b.0, statements_of scope rest s.1 a.1 b.1)

    arms_of : (scope : ℕ → Type 0) (arms : Arms) → ArmsInScopes N I scope arms → InArms A J arms → InArms B K arms → ArmsInScopes M L scope arms
    arms_of scope NoArm s a b = tt
    arms_of scope (Arm t e x rest) s a b = (give scope e s.0 a.0 b.0, statement_of scope x s.1 a.1 b.1, arms_of scope rest s.2 a.2 b.2)

    else_of : (scope : ℕ → Type 0) (o : Otherwise) → ElseInScopes N I scope o → InOtherwise A J o → InOtherwise B K o → ElseInScopes M L scope o
    else_of scope NoElse s a b = tt
    else_of scope (Else x) s a b = statement_of scope x s a b

-- ---- expressions

-- of the numbers only the constant 0 becomes a pointer
null_in : (to : CType) (e : Expression) → IsNullTo to e → IsNullIn to e
null_in to e h q kind is from = h (ap is_pointer is) (ap is_integral from)

module _ (p : Program) (home : List ℕ) (records : List RecordValue) (objects functions : List (List ℕ)) (object : (name : List ℕ) → Contains objects name → (n : ℕ) × (global_number p name ≡ Some n)) (function : (name : List ℕ) → Contains functions name → (f : Callable) × (function_named p name ≡ Some f)) where
  mutual
    pub resolved : (scope : ℕ → Type 0) (e : Expression) → IsScoped scope e → IsBounded records e → EachNode (NodeAmong objects functions home) e → IsResolved p home scope e
    resolved scope (Node t y (Number n)) s b h = tt
    resolved scope (Node t y (Str k)) s b h = tt
    resolved scope (Node t y (Local k)) s b h = s
    resolved scope (Node t y (Global symbol)) s b h = let o = object (full_name home symbol) h.0 in (Ptr.Object o.0 0, object-placed p (full_name home symbol) o.0 o.1)
    resolved scope (Node t y (Function symbol)) s b h = let f = function (full_name home symbol) h.0 in function_placed p (full_name home symbol) f.0 f.1
    resolved scope (Node t y (Unary o a)) s b h = resolved scope a s b.2 h.1
    resolved scope (Node t y (Binary o a c)) s b h = (resolved scope a s.0 b.2.0 h.1.0, resolved scope c s.1 b.2.1 h.1.1)
    resolved scope (Node t y (Logic o a c)) s b h = (resolved scope a s.0 b.2.0 h.1.0, resolved scope c s.1 b.2.1 h.1.1)
    resolved scope (Node t y (Cond a c d)) s b h = (resolved scope a s.0 b.2.0 h.1.0, resolved scope c s.1 b.2.1 h.1.1, resolved scope d s.2 b.2.2 h.1.2)
    resolved scope (Node t y (Comma a c)) s b h = (resolved scope a s.0 b.2.0 h.1.0, resolved scope c s.1 b.2.1 h.1.1)
    resolved scope (Node t y (Assign a c)) s b h = (resolved scope a s.0 b.2.0 h.1.0, resolved scope c s.1 b.2.1 h.1.1)
    resolved scope (Node t y (Compound o working a c)) s b h = (resolved scope a s.0 b.2.0 h.1.0, resolved scope c s.1 b.2.1 h.1.1)
    resolved scope (Node t y (Step o a)) s b h = resolved scope a s b.2 h.1
    resolved scope (Node t y (Cast a)) s b h = (null_in (type_of y) a b.1, resolved scope a s b.2 h.1)
    resolved scope (Node t y (Decay a)) s b h = resolved scope a s b.2 h.1
    resolved scope (Node t y (Member a offset)) s b h = resolved scope a s b.2 h.1
    resolved scope (Node t y (Deref a)) s b h = resolved scope a s b.2 h.1
    resolved scope (Node t y (Address a)) s b h = resolved scope a s b.2 h.1
    resolved scope (Node t y (Call symbol args)) s b h = (function (full_name home symbol) h.0, all_resolved scope args s b.2.1 h.1)
    resolved scope (Node t y (CallValue a args)) s b h = (resolved scope a s.0 b.2.1 h.1.0, all_resolved scope args s.1 b.2.2 h.1.1)

    all_resolved : (scope : ℕ → Type 0) (args : Expressions) → AreScoped scope args → AreBounded records args → EachNodeAmong (NodeAmong objects functions home) args → AreResolved p home scope args
    all_resolved scope NoExpression s b h = tt
    all_resolved scope (OneExpression e rest) s b h = (resolved scope e s.0 b.0 h.0, all_resolved scope rest s.1 b.1 h.1)

  initialiser_resolved : (scope : ℕ → Type 0) (i : Initialiser) → IsScopedInitialiser scope i → IsBoundedIn records i → InitialiserAmong objects functions home i → IsResolvedInitialiser p home scope i
  initialiser_resolved scope (T.Value k e) s b h = (resolved scope e s.0 b h, s.1)
  initialiser_resolved scope (T.Bytes k hidden parts) s b h = tt

  pub statement_resolved : (scope : ℕ → Type 0) (x : Statement) → IsScopedStatement scope x → IsBoundedStatement records x → StatementAmong objects functions home x → IsResolvedStatement p home scope x
  statement_resolved scope x s b h =
      statement_of IsScoped IsScopedInitialiser (IsBounded records) (IsBoundedIn records) (EachNode (NodeAmong objects functions home)) (InitialiserAmong objects functions home)
      (IsResolved p home) (IsResolvedInitialiser p home) resolved initialiser_resolved scope x s b h
