-- Results of operands, lvalues and conversions as functions of the objects; and a step in a type.
use Rattle.std.specs.Prelude.{ℕ, Option, Some, None, Result, Ok, Err, List}
use Rattle.pw_value.specs.declared.value.Value.{Value}
use Rattle.pw_value.specs.declared.value.Value.TheVariants as V
use Rattle.pw_value.specs.Objects.{Object}
use Rattle.pw_types.specs.StepOperators.{step_operator}
use Rattle.pw_types.specs.TypeTrees.{CType, Int}
use Rattle.pw_types.specs.Conversions.{promoted}
use Rattle.pw_types.specs.declared.kind.IntKind.{IntKind}
use Rattle.pw_types.specs.declared.kind.IntKind.TheVariants as K
use Rattle.pw_types.specs.declared.tree.StepOperator.{StepOperator}
use Rattle.pw_cmean.specs.declared.undefined.Undef.TheVariants.{MissingResult}
use Rattle.pw_cmean.specs.Acts.{Act, ◌>>=◌, give}
use Rattle.pw_cmean.specs.Access.{load}
use Rattle.pw_cmean.specs.Operators.{convert}
use Rattle.pw_cmean.specs.Evaluation.{Env, site, update, step_result}
use Rattle.pw_interp_state.specs.declared.category.Category.{Category}
use Rattle.pw_interp_state.specs.declared.category.Category.TheVariants as C
use Rattle.pw_interp_state.specs.declared.fault.Fault.{Fault}
use Rattle.pw_interp_state.specs.declared.fault.Fault.TheVariants as F
use Rattle.pw_interp_state.specs.Accesses.{fetched}
use Rattle.pw_interp_calls.specs.declared.ending.Ending.TheVariants as E
use Rattle.pw_interp_calls.specs.declared.ending.Stop.{Stop}
use Rattle.pw_interp_calls.specs.declared.ending.Stop.TheVariants as S
use Rattle.pw_interp_state.specs.Operations.{converted_to}

-- a result that is not to be missing
abbrev pub present : Option Value → Result Value Fault
present (Some v) = Ok v
present None = Err (F.Undefined MissingResult)

-- the value that must be there
abbrev pub needed : {B : Type 0} → Option B → Result B Stop
needed (Some b) = Ok b
needed None = Err (S.Ended E.Wrong)

abbrev pub some_value : Result Value Fault → Result (Option Value) Fault
some_value (Ok v) = Ok (Some v)
some_value (Err fault) = Err fault

-- the value of an lvalue of a category at a place; of void there is none
abbrev pub value_by : List Object → Category → Value → Result (Option Value) Fault
value_by objects C.Void place = Ok None
value_by objects (C.Int kind) place = some_value (fetched objects (C.Int kind) place)
value_by objects C.Pointer place = some_value (fetched objects C.Pointer place)
value_by objects C.Array place = some_value (fetched objects C.Array place)
value_by objects C.Function place = some_value (fetched objects C.Function place)
value_by objects C.Record place = some_value (fetched objects C.Record place)

-- a present result, converted
abbrev pub present_as : Category → Option Value → Result (Option Value) Fault
present_as category None = Err (F.Undefined MissingResult)
present_as category (Some v) = some_value (converted_to category v)

-- what a conversion makes of an operand's result; to void there is none
abbrev pub cast_to : Category → Option Value → Result (Option Value) Fault
cast_to C.Void answer = Ok None
cast_to (C.Int kind) answer = present_as (C.Int kind) answer
cast_to C.Pointer answer = present_as C.Pointer answer
cast_to C.Array answer = present_as C.Array answer
cast_to C.Function answer = present_as C.Function answer
cast_to C.Record answer = present_as C.Record answer

-- `++` or `--` of an lvalue, where the operation is in a type
unfoldable pub step_in : Env → ℕ → StepOperator → CType → CType → Value → Act Value
step_in e token op ty working place = do
  old ← load (site e token) ty place
  v ← convert (site e token) working old
  new ← update e token ty working place (step_operator op) (Int K.Int) v (V.Num 1)
  give (step_result op old new)

-- the kind in which a step of an integer works
abbrev pub working_kind : CType → Option IntKind
working_kind (Int kind) = Some (promoted kind)
working_kind _ = None
