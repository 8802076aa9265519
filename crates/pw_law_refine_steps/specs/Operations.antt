-- What the operations that lowering makes of operators and conversions give on values.
use Rattle.std.specs.Prelude.{ℕ, Bool, if◌then◌else◌, Option, Some, None}
use Rattle.pw_value.specs.declared.value.Value.{Value}
use Rattle.pw_types.specs.declared.tree.BinaryOperator.{BinaryOperator}
use Rattle.pw_flow.specs.declared.flow.ExtKind.{ExtKind}
use Rattle.pw_lower.specs.Operators.{operation_of, is_turned}
use Rattle.pw_law_source.specs.FromRunLanguages.Values as flow

-- by whether the left operand's type is signed; `>` and `>=` are done in the other order
abbrev pub operated : BinaryOperator → Bool → ℕ → ℕ → Option Value
operated o sign a b =
    if is_turned o then flow.on_numbers (operation_of o sign) b a else flow.on_numbers (operation_of o sign) a b

-- where there is no extension, the value stays as it is
abbrev pub extended_by : Option ExtKind → Value → Option Value
extended_by None v = Some v
extended_by (Some k) v = flow.extension k v
