-- Single parameters, and what stands behind a name (ISO C90 6.5.4).
use Rattle.std.specs.Prelude.{ℕ, Bool, Option, None, Some, List, [], ◌∷◌, ◌++◌}
use Rattle.std.specs.Option.{option_or}
use Rattle.pw_tree.specs.FirstTokens.{first_of_expr, first_of_words}
use Rattle.pw_tree.specs.Trees.{Specifiers, Declarator, Suffixes, Parameters, Expr}
use Rattle.pw_tree.specs.Trees as S
use Rattle.pw_check_walk.specs.Causes.{NoVariadic, NoOldStyle}
use Rattle.pw_check_walk.specs.Walks.{refused, pure, ◌>>=◌, ◌>>◌}
use Rattle.pw_check_rules.specs.Declarations.{specified_rule}
use Rattle.pw_check_rules.specs.Derivations.{Derivation, ToArray, ToFunction, Bindings, ParameterValue, Suffixed}
use Rattle.pw_check_rules.specs.Leaves.{first_of_declaration, length_rule, parameter_storage, parameter_rule, parameter_types, bindings_rule}
use Rattle.pw_check_rules.specs.Phrases.{declarator_rule, suffixes_rule, parameters_rule}
use Rattle.pw_check_rules.specs.States.{Rule, scoped}
use Rattle.pw_check_rules.specs.Statements.{whole_rule}

-- a step of a declarator, and what it declares where it is a list of parameters
pub record StepValue : Type 0 where
  pub derivation : Derivation
  pub bindings : Option Bindings

-- the length of an array
unfoldable pub array_length_rule : Expr → Rule ℕ
array_length_rule e = whole_rule e >>= λ x. length_rule (first_of_expr e) x

-- what a list of parameters declares
unfoldable pub within_list : Parameters → Rule Bindings
within_list parameters = parameters_rule parameters [] >>= λ ps. bindings_rule ps

-- the same in a scope of its own
unfoldable pub listed_rule : Parameters → Rule Bindings
listed_rule parameters = scoped (within_list parameters)

-- the step that a list of parameters is
abbrev pub function_step : Bindings → StepValue
function_step bindings = record { derivation = ToFunction (parameter_types bindings.parameters); bindings = Some bindings }

unfoldable pub prototype_rule : Parameters → Rule StepValue
prototype_rule parameters = listed_rule parameters >>= λ bindings. pure (function_step bindings)

-- an array, which declares nothing
abbrev pub array_step : Option ℕ → StepValue
array_step length = record { derivation = ToArray length; bindings = None }

-- the first of what stands behind a name, where something does
unfoldable pub first_suffix : Suffixes → Rule StepValue
first_suffix S.NoSuffix = pure (array_step None)
first_suffix (S.Array t e rest) = array_length_rule e >>= λ n. pure (array_step (Some n))
first_suffix (S.OpenArray t rest) = pure (array_step None)
first_suffix (S.Prototype t parameters rest) = prototype_rule parameters
first_suffix (S.Variadic t parameters rest) = refused NoVariadic t
first_suffix (S.Identifiers t ws rest) = refused NoOldStyle (first_of_words ws)

-- what was read behind a name with a step more, which is nearer to the type
abbrev pub with_step : Suffixed → StepValue → Suffixed
with_step read step =
    record { derivations = step.derivation ∷ read.derivations; bindings = option_or read.bindings step.bindings }

abbrev pub nothing_read : Suffixed
nothing_read = record { derivations = []; bindings = None }

-- what was read behind a name and what is still to be read
abbrev pub before_rest : Suffixed → Suffixed → Suffixed
before_rest read rest =
    record { derivations = rest.derivations ++ read.derivations; bindings = option_or read.bindings rest.bindings }

unfoldable pub suffixes_behind : Suffixes → Suffixed → Rule Suffixed
suffixes_behind fs read = suffixes_rule fs >>= λ rest. pure (before_rest read rest)

unfoldable pub suffix_behind : Suffixes → Suffixed → Rule Suffixed
suffix_behind f read = first_suffix f >>= λ step. pure (with_step read step)

-- a parameter behind those before; whether it is the only one
unfoldable pub one_parameter : Bool → Specifiers → Declarator → List ParameterValue → Rule (List ParameterValue)
one_parameter sole specifiers d ps =
    specified_rule specifiers (first_of_declaration specifiers d) >>= λ b.
    parameter_storage b >>
    declarator_rule d >>= λ c.
    parameter_rule sole b c ps
