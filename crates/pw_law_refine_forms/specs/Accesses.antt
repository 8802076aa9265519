-- Reading and writing scalars where the place of an lvalue is: the statements of laws.
use Rattle.std.specs.Prelude.{ℕ, ◌≡◌, ◌⊎◌, ◌<◌, ◌≤◌, pos, true, Some, List, [], slice_get, Contains}
use Rattle.pw_value.specs.declared.value.Kind.{Kind}
use Rattle.pw_value.specs.declared.value.Value.{Value}
use Rattle.pw_value.specs.declared.value.Value.TheVariants as V
use Rattle.pw_value.specs.declared.value.Pointer.TheVariants as P
use Rattle.pw_types.specs.TypeTrees.{CType, type_of}
use Rattle.pw_types.specs.TypedTrees.{Expression, LocalValue}
use Rattle.pw_types.specs.WellTyped.{IsTyped, IsArithmetic, IsLvalue, IsPointer, IsScalar, type_in}
use Rattle.pw_types.specs.declared.tree.BinaryOperator.{BinaryOperator}
use Rattle.pw_types.specs.declared.tree.BinaryOperator.TheVariants.{Add, Subtract, Less, Greater, LessEqual, GreaterEqual, Equal, NotEqual}
use Rattle.pw_lower.specs.declared.code.Code.{Code}
use Rattle.pw_lower.specs.declared.place.LocalPlace.TheVariants.{Temp}
use Rattle.pw_lower.specs.declared.place.Target.{Target}
use Rattle.pw_lower.specs.declared.place.Target.TheVariants.{Kept, Named, Led}
use Rattle.pw_lower.specs.Codes.{Lowered, lowered_as, temp_of}
use Rattle.pw_lower.specs.Operators.{kind_of}
use Rattle.pw_lower.specs.Places.{local_in, addressed_in}
use Rattle.pw_lower.specs.Expressions.{Placed, read_target, write, further, lower, place}
use Rattle.pw_cmean.specs.Acts.{State, Site}
use Rattle.pw_cmean.specs.Access.{Purpose, load, store}
use Rattle.pw_cmean.specs.Operators.{advance}
use Rattle.pw_cmean.specs.Evaluation.{place_of}
use Rattle.pw_cmean.specs.SourceRun.{calls}
use Rattle.pw_cmean.specs.Typed.{IsValueOf}
use Rattle.pw_run_languages.specs.Programs.{global_number}
use Rattle.pw_run_languages.specs.FlowRun.{Machine, value_in, is_own_kind}
use Rattle.pw_law_refine.specs.Standing.{Spot, Stands}
use Rattle.pw_law_refine.specs.Activations.{Activation, IsActivation, Numbers, number_of, graphs, graph_of, home_of, env_of, place_in, local_temps, HaveSlots}
use Rattle.pw_law_refine.specs.Matching.{Related, Later}
use Rattle.pw_law_refine.specs.Containing.{ContainsCode}
use Rattle.pw_law_refine.specs.Meeting.{Meets}
use Rattle.pw_law_refine.specs.Expressions.{IsReady, HasValue, HasResult, HasTarget, ResultStands, TargetStands, IsOfPlaces}

-- A local that is a target has the type; a global that is one, where there is one of the name, has the type's kind.
abbrev pub SuitsType : Activation → CType → Target → Type 0
SuitsType x ty (Kept t) = (k : ℕ) (l : LocalValue) → slice_get x.function.locals k ≡ Some l → place_in x k ≡ Temp t → type_of l.ty ≡ ty
SuitsType x ty (Named g) = (k : Kind) (o : ℕ) → kind_of ty ≡ Some k → global_number (graphs x.world) g ≡ Some o → is_own_kind (graphs x.world) g k ≡ true
SuitsType x ty (Led t) = Unit {0}

-- a local that is a target is among those that are assigned to
abbrev pub Covers : Activation → List ℕ → Target → Type 0
Covers x assigned (Kept t) = (k : ℕ) × Contains assigned k × (place_in x k ≡ Temp t)
Covers x assigned (Named g) = Unit {0}
Covers x assigned (Led t) = Unit {0}

-- What the meaning of C reads at a place, the code that reads there puts into a new temporary.
abbrev pub ReadsKeep : Type 0
ReadsKeep =
    (bound : ℕ) (x : Activation) (numbers : Numbers) (spots : List Spot) (ty : CType) (k : Kind) (at : Site) (target : Target) (c : Code) (s : State) (m : Machine) (place : Value) →
    kind_of ty ≡ Some k → IsReady x numbers spots c s m → ContainsCode (graph_of x) (read_target k target c).code →
    SuitsType x ty target → TargetStands x numbers spots place target m →
    Meets x.world bound m (load at ty place s) (λ v. HasValue x numbers spots [] (read_target k target c) c s m (Some v))

-- What the meaning of C writes at a place, the code that writes there writes from a temporary that no local has.
abbrev pub WritesKeep : Type 0
WritesKeep =
    (bound : ℕ) (x : Activation) (numbers : Numbers) (spots : List Spot) (assigned : List ℕ) (purpose : Purpose) (ty : CType) (k : Kind) (at : Site) (target : Target) (t : ℕ) (c : Code) (s : State) (m : Machine) (place v : Value) →
    kind_of ty ≡ Some k → IsReady x numbers spots c s m → ContainsCode (graph_of x) (write k target t c) →
    SuitsType x ty target → Covers x assigned target → local_temps x ≤ t → IsValueOf ty v → Stands spots v (value_in m.frame t) →
    TargetStands x numbers spots place target m →
    Meets x.world bound m (store purpose at ty place v s) (λ done. HasValue x numbers spots assigned (lowered_as (Some t) (write k target t c)) c s m (Some v))

-- So it does through an address, from any temporary.
abbrev pub WritesThroughKeep : Type 0
WritesThroughKeep =
    (bound : ℕ) (x : Activation) (numbers : Numbers) (spots : List Spot) (assigned : List ℕ) (purpose : Purpose) (ty : CType) (k : Kind) (at : Site) (a t : ℕ) (c : Code) (s : State) (m : Machine) (place v : Value) →
    kind_of ty ≡ Some k → IsReady x numbers spots c s m → ContainsCode (graph_of x) (write k (Led a) t c) →
    IsValueOf ty v → Stands spots v (value_in m.frame t) → Stands spots place (value_in m.frame a) →
    Meets x.world bound m (store purpose at ty place v s) (λ done. HasValue x numbers spots assigned (lowered_as (Some t) (write k (Led a) t c)) c s m (Some v))

-- The states are related behind something for which the machine does nothing.
pub record HasStayed (x : Activation) (numbers : Numbers) (spots : List Spot) (s : State) (m : Machine) (done : Unit {0}) (t : State) (n : Machine) : Type 0 where
  pub later : Later x numbers spots s m t n
  pub same : n ≡ m

-- For the write of a value to a local that is kept in a temporary, in which the value stands already, nothing is done.
abbrev pub WritesStay : Type 0
WritesStay =
    (bound : ℕ) (x : Activation) (numbers : Numbers) (spots : List Spot) (purpose : Purpose) (ty : CType) (k : Kind) (at : Site) (t j o : ℕ) (s : State) (m : Machine) (v : Value) →
    kind_of ty ≡ Some k → Related x numbers spots s m → ((l : LocalValue) → slice_get x.function.locals j ≡ Some l → type_of l.ty ≡ ty) →
    number_of numbers j ≡ Some o → place_in x j ≡ Temp t → t < (graph_of x).temps → IsValueOf ty v → Stands spots v (value_in m.frame t) →
    Meets x.world bound m (store purpose at ty (V.At (P.Object o 0)) v s) (HasStayed x numbers spots s m)

-- the operators that compare (C90 6.3.8, 6.3.9)
abbrev pub IsComparison : BinaryOperator → Type 0
IsComparison Less = Unit {0}
IsComparison Greater = Unit {0}
IsComparison LessEqual = Unit {0}
IsComparison GreaterEqual = Unit {0}
IsComparison Equal = Unit {0}
IsComparison NotEqual = Unit {0}
IsComparison _ = ⊥

-- the operators on a pointer and a number, or on two pointers, by the types of their operands (6.3.6)
abbrev pub IsMove : BinaryOperator → CType → CType → Type 0
IsMove Add left right = (IsPointer left × IsArithmetic right) ⊎ (IsArithmetic left × IsPointer right)
IsMove Subtract left right = (IsPointer left × IsArithmetic right) ⊎ (IsPointer left × IsPointer right)
IsMove _ left right = ⊥

-- `+` and `-` (6.3.6)
abbrev pub IsAdditive : BinaryOperator → Type 0
IsAdditive Add = Unit {0}
IsAdditive Subtract = Unit {0}
IsAdditive _ = ⊥

-- ---- lvalues

-- the promise of the place of one scalar lvalue
abbrev pub LvalueKeeps : ℕ → Expression → Type 0
LvalueKeeps bound a =
    (x : Activation) (numbers : Numbers) (spots : List Spot) (c : Code) (s : State) (m : Machine) →
    IsActivation x → IsTyped x.home.tree x.function.locals a → HaveSlots x (addressed_in a) → IsLvalue a → IsScalar (type_in a) →
    ContainsCode (graph_of x) (place (home_of x) a c).code → IsReady x numbers spots c s m →
    Meets x.world bound m (place_of a (calls x.world bound) (env_of x numbers) s) (HasTarget x numbers spots a c s m)

-- an address stands in a temporary that the code gave out
abbrev pub IsLedSince : Code → Placed → Target → Type 0
IsLedSince c p (Kept t) = Unit {0}
IsLedSince c p (Named g) = Unit {0}
IsLedSince c p (Led t) = (c.temps ≤ t) × (t < p.code.temps)

pub record ComesLater (c : Code) (p : Placed) : Type 0 where
  pub temps : c.temps ≤ p.code.temps
  pub led : IsLedSince c p p.target

-- What is known of the target of an lvalue from its type alone.
pub record TargetSuits (x : Activation) (a : Expression) (c : Code) : Type 0 where
  pub later : ComesLater c (place (home_of x) a c)
  pub suits : SuitsType x (type_in a) (place (home_of x) a c).target
  pub covers : Covers x (local_in a) (place (home_of x) a c).target

abbrev pub TargetsSuit : Expression → Type 0
TargetsSuit a =
    (x : Activation) (c : Code) → IsActivation x → IsTyped x.home.tree x.function.locals a → HaveSlots x (addressed_in a) → IsLvalue a → IsScalar (type_in a) →
    TargetSuits x a c

-- the promise of the place of one array, function, structure or union
abbrev pub AddressKeeps : ℕ → Expression → Type 0
AddressKeeps bound a =
    (x : Activation) (numbers : Numbers) (spots : List Spot) (c : Code) (s : State) (m : Machine) →
    IsActivation x → IsTyped x.home.tree x.function.locals a → HaveSlots x (addressed_in a) → IsOfPlaces (type_in a) →
    ContainsCode (graph_of x) (lower (home_of x) a c).code → IsReady x numbers spots c s m →
    Meets x.world bound m (place_of a (calls x.world bound) (env_of x numbers) s) (λ v. HasResult x numbers spots a c s m (Some v))

-- ---- pointers that move

-- a place some bytes further
abbrev pub AdvancesKeep : Type 0
AdvancesKeep =
    (bound : ℕ) (x : Activation) (numbers : Numbers) (spots : List Spot) (at : Site) (offset : ℕ) (y : Lowered) (s : State) (m : Machine) (place : Value) →
    IsReady x numbers spots y.code s m → temp_of y < y.code.temps → ContainsCode (graph_of x) (further offset y).code →
    ResultStands spots (Some place) y.temp m →
    Meets x.world bound m (advance at place (pos offset) s) (λ v. HasValue x numbers spots [] (further offset y) y.code s m (Some v))
