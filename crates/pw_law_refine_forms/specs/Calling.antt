-- Arguments that keep their promise, and the forms of expressions that name functions or call them.
use Rattle.std.specs.Prelude.{ℕ, List}
use Rattle.pw_types.specs.TypeTrees.{QType}
use Rattle.pw_types.specs.TypedTrees.{Symbol, Expression, Node, Function, Address, Call, CallValue, Expressions, NoExpression, OneExpression}
use Rattle.pw_lower.specs.declared.code.Code.{Code}
use Rattle.pw_lower.specs.Places.{addressed_in_all}
use Rattle.pw_lower.specs.Expressions.{arguments}
use Rattle.pw_cmean.specs.Acts.{State}
use Rattle.pw_cmean.specs.Evaluation.{values_of}
use Rattle.pw_cmean.specs.SourceRun.{calls}
use Rattle.pw_run_languages.specs.FlowRun.{Machine}
use Rattle.pw_law_refine.specs.Standing.{Spot}
use Rattle.pw_law_refine.specs.Activations.{Activation, IsActivation, Numbers, graph_of, home_of, env_of, HaveSlots}
use Rattle.pw_law_refine.specs.Containing.{ContainsCode}
use Rattle.pw_law_refine.specs.Meeting.{Meets}
use Rattle.pw_law_refine.specs.Expressions.{AreTyped, IsReady, HasArguments, ExpressionKeeps}
use Rattle.pw_law_refine_forms.specs.Accesses.{AddressKeeps}

-- each of several expressions keeps its promise
abbrev pub EachKeeps : ℕ → Expressions → Type 0
EachKeeps bound NoExpression = Unit {0}
EachKeeps bound (OneExpression a rest) = ExpressionKeeps bound a × EachKeeps bound rest

-- the promise of the arguments of one call
abbrev pub ArgumentListKeeps : ℕ → Expressions → Type 0
ArgumentListKeeps bound args =
    (x : Activation) (numbers : Numbers) (spots : List Spot) (token : ℕ) (c : Code) (s : State) (m : Machine) →
    IsActivation x → AreTyped x args → HaveSlots x (addressed_in_all args) →
    ContainsCode (graph_of x) (arguments (home_of x) args c).code → IsReady x numbers spots c s m →
    Meets x.world bound m (values_of args token (calls x.world bound) (env_of x numbers) s) (HasArguments x numbers spots args c s m)

-- Names of functions keep their promise, as values, as places and behind `&`; and so do calls whose arguments keep
-- theirs, and in a call through a value that too.
pub record FunctionFormsKeep (bound : ℕ) : Type 0 where
  pub names : (t : ℕ) (ty : QType) (symbol : Symbol) → ExpressionKeeps bound (Node t ty (Function symbol))
  pub places : (t : ℕ) (ty : QType) (symbol : Symbol) → AddressKeeps bound (Node t ty (Function symbol))
  pub addresses : (t u : ℕ) (ty own : QType) (symbol : Symbol) → ExpressionKeeps bound (Node t ty (Address (Node u own (Function symbol))))
  pub calls : (t : ℕ) (ty : QType) (symbol : Symbol) (args : Expressions) → EachKeeps bound args → ExpressionKeeps bound (Node t ty (Call symbol args))
  pub values : (t : ℕ) (ty : QType) (a : Expression) (args : Expressions) → ExpressionKeeps bound a → EachKeeps bound args → ExpressionKeeps bound (Node t ty (CallValue a args))
