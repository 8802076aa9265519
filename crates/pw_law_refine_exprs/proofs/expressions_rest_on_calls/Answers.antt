use Rattle.std.proofs.Common.{ℕ}
use Rattle.pw_types.specs.TypedTrees.{Expressions, NoExpression, OneExpression}
use Rattle.pw_law_refine.specs.Calls.{CallsKeep}
use Rattle.pw_law_refine.specs.Expressions.{ExpressionsKeep}
use Rattle.pw_law_refine_forms.specs.Calling.{EachKeeps, FunctionFormsKeep}
use Rattle.pw_law_refine_exprs.proofs.expressions_rest_on_calls.Goals as goal

-- the forms that the other laws leave
functions : goal.After-tests_keep → (bound : ℕ) → CallsKeep bound → FunctionFormsKeep bound
functions c bound keeps = record {
  names = c.function_names_keep.ensures.values bound;
  places = c.function_names_keep.ensures.places bound;
  addresses = c.function_names_keep.ensures.addresses bound;
  calls = c.calls_are_expressions.ensures.names bound keeps;
  values = c.calls_are_expressions.ensures.values bound keeps;
}

each : (bound : ℕ) → ExpressionsKeep bound → (args : Expressions) → EachKeeps bound args
each bound keeps NoExpression = tt
each bound keeps (OneExpression a rest) = (keeps a, each bound keeps rest)

every : goal.After-tests_keep → (bound : ℕ) → CallsKeep bound → ExpressionsKeep bound
every c bound keeps = c.expressions_rest_on_functions.ensures.values bound (functions c bound keeps)

pub returns-clause-values : goal.returns-clause-values
returns-clause-values c = every c

pub returns-clause-lvalues : goal.returns-clause-lvalues
returns-clause-lvalues c = λ bound keeps. c.expressions_rest_on_functions.ensures.places bound (functions c bound keeps)

pub returns-clause-addresses : goal.returns-clause-addresses
returns-clause-addresses c = λ bound keeps. c.expressions_rest_on_functions.ensures.addresses bound (functions c bound keeps)

pub returns-clause-arguments : goal.returns-clause-arguments
returns-clause-arguments c = λ bound keeps x numbers spots args. c.addresses_keep.ensures.arguments bound args (each bound (every c bound keeps) args) x numbers spots

pub returns-clause-conditions : goal.returns-clause-conditions
returns-clause-conditions c = λ bound keeps. c.tests_keep.ensures.conditions bound (every c bound keeps)
