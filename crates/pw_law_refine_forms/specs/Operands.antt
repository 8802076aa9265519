-- What binary operators promise behind both of their operands.
use Rattle.std.specs.Prelude.{ℕ, ◌<◌, Some, List, []}
use Rattle.pw_value.specs.declared.value.Value.{Value}
use Rattle.pw_types.specs.TypeTrees.{CType}
use Rattle.pw_types.specs.declared.tree.BinaryOperator.{BinaryOperator}
use Rattle.pw_lower.specs.declared.code.Code.{Code}
use Rattle.pw_lower.specs.Operators.{combined}
use Rattle.pw_cmean.specs.Acts.{State, Site, give, ◌>>=◌}
use Rattle.pw_cmean.specs.Operators.{binary}
use Rattle.pw_cmean.specs.Typed.{IsValueOf}
use Rattle.pw_run_languages.specs.FlowRun.{Machine, value_in}
use Rattle.pw_law_refine.specs.Standing.{Spot, Stands}
use Rattle.pw_law_refine.specs.Activations.{Activation, Numbers, graph_of}
use Rattle.pw_law_refine.specs.Containing.{ContainsCode}
use Rattle.pw_law_refine.specs.Meeting.{Meets}
use Rattle.pw_law_refine.specs.Expressions.{IsReady, HasValue}

-- behind both operands each value stands in its temporary
pub record BothStand (x : Activation) (numbers : Numbers) (spots : List Spot) (p q : ℕ) (c : Code) (v w : Value) (s : State) (m : Machine) : Type 0 where
  pub ready : IsReady x numbers spots c s m
  pub first : Stands spots v (value_in m.frame p)
  pub second : Stands spots w (value_in m.frame q)

-- an operator of operands of these types, in temporaries that the code gave out
abbrev pub AppliesAt : Activation → ℕ → BinaryOperator → CType → CType → Type 0
AppliesAt x bound o left right =
    (numbers : Numbers) (spots : List Spot) (at : Site) (p q : ℕ) (c : Code) (v w : Value) (s : State) (m : Machine) →
    p < c.temps → q < c.temps → IsValueOf left v → IsValueOf right w → BothStand x numbers spots p q c v w s m → ContainsCode (graph_of x) (combined x.home.tree.records o left right p q c).code →
    Meets x.world bound m ((binary at x.home.tree.records o left right v w >>= λ result. give (Some result)) s) (HasValue x numbers spots [] (combined x.home.tree.records o left right p q c) c s m)

abbrev pub Applies : ℕ → BinaryOperator → CType → CType → Type 0
Applies bound o left right = (x : Activation) → AppliesAt x bound o left right
