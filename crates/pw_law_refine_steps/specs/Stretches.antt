-- What operations, and stretches of a run one behind the other, do to related states: the statements of laws.
use Rattle.std.specs.Prelude.{ℕ, ◌≡◌, ◌<◌, ◌≤◌, Some, List, ◌∷◌, ◌++◌, length, slice_get, Contains, []}
use Rattle.pw_value.specs.declared.value.Value.{Value}
use Rattle.pw_types.specs.TypedTrees.{Expression, LocalValue}
use Rattle.pw_types.specs.WellTyped.{IsTyped}
use Rattle.pw_flow.specs.declared.flow.Op.{Op}
use Rattle.pw_flow.specs.declared.flow.FlowFn.{FlowFn}
use Rattle.pw_lower.specs.declared.code.Code.{Code}
use Rattle.pw_lower.specs.declared.place.LocalPlace.TheVariants.{Temp}
use Rattle.pw_lower.specs.Codes.{emit, fresh}
use Rattle.pw_cmean.specs.Acts.{State}
use Rattle.pw_law_source.specs.FromRunLanguages.Commands.{command}
use Rattle.pw_law_source.specs.FromRunLanguages.FlowRun.{Machine, On, value_in, with_temp, obeys, step}
use Rattle.pw_law_refine.specs.Standing.{Spot, Stands}
use Rattle.pw_law_refine.specs.Activations.{Activation, Numbers, graphs, graph_of, place_in, local_temps}
use Rattle.pw_law_refine.specs.Matching.{Lasts, Related}
use Rattle.pw_law_refine.specs.Containing.{BeginsWith, ContainsCode, IsBehind}
use Rattle.pw_law_refine.specs.Meeting.{Reaches}
use Rattle.pw_law_refine.specs.Expressions.{assigned_in, IsReady, HasValue}

-- ---- one operation

-- the machine with what is left of its block, and a value in a temporary
abbrev pub moved_on : List Op → ℕ → Value → Machine → Machine
moved_on rest t v m = with_temp t v (record m { frame = record m.frame { ops = rest } })

-- what is left of the block begins with the operation that the code has next
pub record Next (g : FlowFn) (c : Code) (o : Op) (m : Machine) : Type 0 where
  pub rest : List Op
  pub ops : m.frame.ops ≡ o ∷ rest
  pub behind : (t : ℕ) (v : Value) → IsBehind g (emit o c) (moved_on rest t v m)

-- a machine behind code is before the operation that comes next in a graph that has it
abbrev pub AreNext : Type 0
AreNext = (g : FlowFn) (c : Code) (o : Op) (m : Machine) → BeginsWith g c.cur (c.ops ++ o ∷ []) → IsBehind g c m → Next g c o m

-- the step of a machine whose next operation is this
abbrev pub StepsObey : Type 0
StepsObey =
    (x : Activation) (m : Machine) (o : Op) (rest : List Op) → m.frame.ops ≡ o ∷ rest →
    step (graphs x.world) m ≡ obeys (graphs x.world) (command (graphs x.world) m.frame.base o (value_in m.frame)) (record m { frame = record m.frame { ops = rest } })

-- a value in a temporary that no local has leaves the states related
abbrev pub PutsStayRelated : Type 0
PutsStayRelated =
    (x : Activation) (numbers : Numbers) (spots : List Spot) (s : State) (m : Machine) (rest : List Op) (t : ℕ) (v : Value) →
    local_temps x ≤ t → Related x numbers spots s m → Related x numbers spots s (moved_on rest t v m)

-- an operation that at once gives a value to a new temporary
abbrev pub FreshOperationsReach : Type 0
FreshOperationsReach =
    (x : Activation) (numbers : Numbers) (spots : List Spot) (assigned : List ℕ) (c : Code) (s : State) (m : Machine) (o : ℕ → Op) (v w : Value) →
    ContainsCode (graph_of x) (fresh o c).code → IsReady x numbers spots c s m → Stands spots v w →
    ((rest : List Op) → obeys (graphs x.world) (command (graphs x.world) m.frame.base (o c.temps) (value_in m.frame)) (record m { frame = record m.frame { ops = rest } }) ≡ On (moved_on rest c.temps w m)) →
    Reaches (graphs x.world) m (HasValue x numbers spots assigned (fresh o c) c s m (Some v) s)

-- ---- stretches

-- what lasts over one stretch and then another lasts over both
abbrev pub LastsTwice : Type 0
LastsTwice =
    (numbers : Numbers) (a b c : List Spot) (s t u : State) (m n r : Machine) →
    length a ≡ length s.objects → length b ≡ length t.objects → Lasts numbers a b s t m n → Lasts numbers b c t u n r → Lasts numbers a c s u m r

-- what stands for a value goes on to, where there are more spots
abbrev pub StandsLater : Type 0
StandsLater = (a b : List Spot) (v w : Value) → ((new : List Spot) × (b ≡ a ++ new)) → Stands a v w → Stands b v w

-- ---- the temporaries of locals

abbrev pub LocalsComeFirst : Type 0
LocalsComeFirst = (x : Activation) (k t : ℕ) (l : LocalValue) → slice_get x.function.locals k ≡ Some l → place_in x k ≡ Temp t → t < local_temps x

-- what a well-typed expression assigns to is a local of the function
abbrev pub AssignsToLocals : Type 0
AssignsToLocals =
    (x : Activation) (a : Expression) → IsTyped x.home.tree x.function.locals a → (k : ℕ) → Contains (assigned_in a) k →
    (l : LocalValue) × (slice_get x.function.locals k ≡ Some l)
