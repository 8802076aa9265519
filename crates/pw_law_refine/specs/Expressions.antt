-- What the code of an expression promises: where its meaning gives a value, the machine comes behind the code, and the
-- value stands in the code's temporary.
use Rattle.std.specs.Prelude.{ℕ, ◌≡◌, ◌≢◌, ◌<◌, ◌≤◌, Bool, if◌then◌else◌, Option, Some, None, List, [], ◌∷◌, ◌++◌, Contains}
use Rattle.pw_value.specs.declared.value.Value.{Value}
use Rattle.pw_value.specs.declared.value.Value.TheVariants as V
use Rattle.pw_value.specs.declared.value.Pointer.TheVariants as P
use Rattle.pw_types.specs.TypeTrees.{CType, Array, Function, Record}
use Rattle.pw_types.specs.TypedTrees.{Expression, Node, Form, Unary, Binary, Logic, Cond, Comma, Assign, Compound, Step, Cast, Decay, Member, Deref, Address, Call, CallValue, Expressions, NoExpression, OneExpression}
use Rattle.pw_types.specs.WellTyped.{IsTyped, IsLvalue, IsScalar, type_in}
use Rattle.pw_lower.specs.declared.code.Code.{Code}
use Rattle.pw_lower.specs.declared.place.LocalPlace.TheVariants.{Temp}
use Rattle.pw_lower.specs.declared.place.Target.{Target}
use Rattle.pw_lower.specs.declared.place.Target.TheVariants.{Kept, Named, Led}
use Rattle.pw_lower.specs.Codes.{Lowered}
use Rattle.pw_lower.specs.Places.{local_in, addressed_in, addressed_in_all}
use Rattle.pw_lower.specs.Expressions.{lower, place, arguments}
use Rattle.pw_lower.specs.Statements.{test}
use Rattle.pw_cmean.specs.Acts.{State}
use Rattle.pw_cmean.specs.Evaluation.{answer_of, place_of, values_of}
use Rattle.pw_cmean.specs.Execution.{condition}
use Rattle.pw_cmean.specs.SourceRun.{calls}
use Rattle.pw_law_source.specs.FromRunLanguages.Programs.{global_number}
use Rattle.pw_law_source.specs.FromRunLanguages.FlowRun.{Machine, value_in}
use Rattle.pw_law_refine.specs.Standing.{Spot, Stands}
use Rattle.pw_law_refine.specs.Activations.{Activation, IsActivation, Numbers, graphs, graph_of, home_of, place_in, local_temps, HaveSlots, number_of, env_of}
use Rattle.pw_law_refine.specs.Matching.{Related, Later}
use Rattle.pw_law_refine.specs.Containing.{ContainsCode, IsAt, IsBehind}
use Rattle.pw_law_refine.specs.Meeting.{Meets}

-- ---- the locals that an expression assigns to

abbrev mutual
  pub assigned_in : Expression → List ℕ
  assigned_in (Node t ty form) = assigned_by form

  pub assigned_by : Form → List ℕ
  assigned_by (Assign a b) = local_in a ++ assigned_in a ++ assigned_in b
  assigned_by (Compound o ty a b) = local_in a ++ assigned_in a ++ assigned_in b
  assigned_by (Step o a) = local_in a ++ assigned_in a
  assigned_by (Unary o a) = assigned_in a
  assigned_by (Binary o a b) = assigned_in a ++ assigned_in b
  assigned_by (Logic o a b) = assigned_in a ++ assigned_in b
  assigned_by (Cond c a b) = assigned_in c ++ assigned_in a ++ assigned_in b
  assigned_by (Comma a b) = assigned_in a ++ assigned_in b
  assigned_by (Cast a) = assigned_in a
  assigned_by (Decay a) = assigned_in a
  assigned_by (Member a offset) = assigned_in a
  assigned_by (Deref a) = assigned_in a
  assigned_by (Address a) = assigned_in a
  assigned_by (Call f args) = assigned_in_all args
  assigned_by (CallValue a args) = assigned_in a ++ assigned_in_all args
  assigned_by _ = []

  pub assigned_in_all : Expressions → List ℕ
  assigned_in_all NoExpression = []
  assigned_in_all (OneExpression a rest) = assigned_in a ++ assigned_in_all rest

-- ---- before the code

-- The states are related, the machine is behind the code so far, and that has numbers for the temporaries of the locals.
pub record IsReady (x : Activation) (numbers : Numbers) (spots : List Spot) (c : Code) (s : State) (m : Machine) : Type 0 where
  pub related : Related x numbers spots s m
  pub behind : IsBehind (graph_of x) c m
  pub temps : local_temps x ≤ c.temps

-- ---- behind it

-- The states are related again. The temporaries that the code so far had given out, but those of the locals that are
-- assigned to, hold what they held.
pub record IsDone (x : Activation) (numbers : Numbers) (spots : List Spot) (assigned : List ℕ) (c : Code) (s : State) (m : Machine) (t : State) (n : Machine) : Type 0 where
  pub later : Later x numbers spots s m t n
  pub temps : (i : ℕ) → i < c.temps → ((k : ℕ) → Contains assigned k → place_in x k ≢ Temp i) → value_in n.frame i ≡ value_in m.frame i

-- a result, if there is one, stands in a temporary
abbrev pub ResultStands : List Spot → Option Value → Option ℕ → Machine → Type 0
ResultStands spots None t m = Unit {0}
ResultStands spots (Some v) (Some t) m = Stands spots v (value_in m.frame t)
ResultStands spots (Some v) None m = ⊥

-- the place of a scalar lvalue: a local that is kept, a global, or where the address in a temporary leads
abbrev pub TargetStands : Activation → Numbers → List Spot → Value → Target → Machine → Type 0
TargetStands x numbers spots v (Kept t) m =
    (k : ℕ) × (o : ℕ) × (number_of numbers k ≡ Some o) × (place_in x k ≡ Temp t) × (v ≡ V.At (P.Object o 0))
TargetStands x numbers spots v (Named g) m =
    (o : ℕ) × (global_number (graphs x.world) g ≡ Some o) × (v ≡ V.At (P.Object o 0))
TargetStands x numbers spots v (Led t) m = Stands spots v (value_in m.frame t)

-- each of several values in its temporary
abbrev pub AllStand : List Spot → List Value → List ℕ → Machine → Type 0
AllStand spots [] [] m = Unit {0}
AllStand spots (v ∷ vs) (t ∷ ts) m = Stands spots v (value_in m.frame t) × AllStand spots vs ts m
AllStand spots vs ts m = ⊥

-- the machine is behind the code, and the result stands in the code's temporary
pub record HasValue (x : Activation) (numbers : Numbers) (spots : List Spot) (assigned : List ℕ) (y : Lowered) (c : Code) (s : State) (m : Machine) (result : Option Value) (t : State) (n : Machine) : Type 0 where
  pub done : IsDone x numbers spots assigned c s m t n
  pub behind : IsBehind (graph_of x) y.code n
  pub stands : ResultStands done.later.spots result y.temp n

abbrev pub HasResult : Activation → Numbers → List Spot → Expression → Code → State → Machine → Option Value → State → Machine → Type 0
HasResult x numbers spots a c s m result t n = HasValue x numbers spots (assigned_in a) (lower (home_of x) a c) c s m result t n

pub record HasTarget (x : Activation) (numbers : Numbers) (spots : List Spot) (a : Expression) (c : Code) (s : State) (m : Machine) (v : Value) (t : State) (n : Machine) : Type 0 where
  pub done : IsDone x numbers spots (assigned_in a) c s m t n
  pub behind : IsBehind (graph_of x) (place (home_of x) a c).code n
  pub stands : TargetStands x numbers done.later.spots v (place (home_of x) a c).target n

pub record HasArguments (x : Activation) (numbers : Numbers) (spots : List Spot) (args : Expressions) (c : Code) (s : State) (m : Machine) (vs : List Value) (t : State) (n : Machine) : Type 0 where
  pub done : IsDone x numbers spots (assigned_in_all args) c s m t n
  pub behind : IsBehind (graph_of x) (arguments (home_of x) args c).code n
  pub stand : AllStand done.later.spots vs (arguments (home_of x) args c).temps n

-- the machine is at the beginning of the one block where the condition holds, and else of the other
pub record HasChosen (x : Activation) (numbers : Numbers) (spots : List Spot) (a : Expression) (so other : ℕ) (c : Code) (s : State) (m : Machine) (holds : Bool) (t : State) (n : Machine) : Type 0 where
  pub done : IsDone x numbers spots (assigned_in a) c s m t n
  pub front : IsAt (graph_of x) (if holds then so else other) [] n

-- ---- the promises, at a bound

-- the value of an expression
abbrev pub ExpressionKeeps : ℕ → Expression → Type 0
ExpressionKeeps bound a =
    (x : Activation) (numbers : Numbers) (spots : List Spot) (c : Code) (s : State) (m : Machine) →
    IsActivation x → IsTyped x.home.tree x.function.locals a → HaveSlots x (addressed_in a) →
    ContainsCode (graph_of x) (lower (home_of x) a c).code → IsReady x numbers spots c s m →
    Meets x.world bound m (answer_of a (calls x.world bound) (env_of x numbers) s) (HasResult x numbers spots a c s m)

abbrev pub ExpressionsKeep : ℕ → Type 0
ExpressionsKeep bound = (a : Expression) → ExpressionKeeps bound a

-- the place of a scalar lvalue
abbrev pub LvaluesKeep : ℕ → Type 0
LvaluesKeep bound =
    (x : Activation) (numbers : Numbers) (spots : List Spot) (a : Expression) (c : Code) (s : State) (m : Machine) →
    IsActivation x → IsTyped x.home.tree x.function.locals a → HaveSlots x (addressed_in a) →
    IsLvalue a → IsScalar (type_in a) →
    ContainsCode (graph_of x) (place (home_of x) a c).code → IsReady x numbers spots c s m →
    Meets x.world bound m (place_of a (calls x.world bound) (env_of x numbers) s) (HasTarget x numbers spots a c s m)

-- types whose values are places
abbrev pub IsOfPlaces : CType → Type 0
IsOfPlaces (Array element count) = Unit {0}
IsOfPlaces (Function result params) = Unit {0}
IsOfPlaces (Record number) = Unit {0}
IsOfPlaces _ = ⊥

-- the place of an array, a function, a structure or a union, which is its value
abbrev pub AddressesKeep : ℕ → Type 0
AddressesKeep bound =
    (x : Activation) (numbers : Numbers) (spots : List Spot) (a : Expression) (c : Code) (s : State) (m : Machine) →
    IsActivation x → IsTyped x.home.tree x.function.locals a → HaveSlots x (addressed_in a) → IsOfPlaces (type_in a) →
    ContainsCode (graph_of x) (lower (home_of x) a c).code → IsReady x numbers spots c s m →
    Meets x.world bound m (place_of a (calls x.world bound) (env_of x numbers) s) (λ v. HasResult x numbers spots a c s m (Some v))

abbrev pub AreTyped : Activation → Expressions → Type 0
AreTyped x NoExpression = Unit {0}
AreTyped x (OneExpression a rest) = IsTyped x.home.tree x.function.locals a × AreTyped x rest

-- the values of arguments; the number is the token of the call
abbrev pub ArgumentsKeep : ℕ → Type 0
ArgumentsKeep bound =
    (x : Activation) (numbers : Numbers) (spots : List Spot) (args : Expressions) (token : ℕ) (c : Code) (s : State) (m : Machine) →
    IsActivation x → AreTyped x args → HaveSlots x (addressed_in_all args) →
    ContainsCode (graph_of x) (arguments (home_of x) args c).code → IsReady x numbers spots c s m →
    Meets x.world bound m (values_of args token (calls x.world bound) (env_of x numbers) s) (HasArguments x numbers spots args c s m)

-- a condition, behind which a block of the number `next` and of a depth is filled
abbrev pub ConditionsKeep : ℕ → Type 0
ConditionsKeep bound =
    (x : Activation) (numbers : Numbers) (spots : List Spot) (a : Expression) (so other next depth : ℕ) (c : Code) (s : State) (m : Machine) →
    IsActivation x → IsTyped x.home.tree x.function.locals a → HaveSlots x (addressed_in a) → IsScalar (type_in a) →
    ContainsCode (graph_of x) (test (home_of x) a so other next depth c) → IsReady x numbers spots c s m →
    Meets x.world bound m (condition a (calls x.world bound) (env_of x numbers) s) (HasChosen x numbers spots a so other c s m)
