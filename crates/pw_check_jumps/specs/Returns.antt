-- Parts of the rules of jumps that the code has as functions of their own.
use Rattle.std.specs.Prelude.{ℕ, not, Some, [], ◌∷◌}
use Rattle.pw_types.specs.TypedTrees.{Expression, Statement}
use Rattle.pw_types.specs.TypedTrees as T
use Rattle.pw_types.specs.TypeTrees.{type_of}
use Rattle.pw_check_walk.specs.Causes.{needs, ReturnedValue, ReturnedType}
use Rattle.pw_check_walk.specs.Walks.{meets, pure, asks, ◌>>=◌, ◌>>◌}
use Rattle.pw_check_rules.specs.Kinds.{is_void}
use Rattle.pw_check_rules.specs.Operands.{cast_to}
use Rattle.pw_check_rules.specs.Operators.{is_assignable}
use Rattle.pw_check_rules.specs.States.{Rule}

-- a value is returned (6.6.6.4)
unfoldable pub returned_rule : ℕ → Expression → Rule Statement
returned_rule t x =
    asks (λ s. type_of s.body.result) >>= λ result.
    meets (
    needs ReturnedValue t (not (is_void result))
    ∷ needs ReturnedType t (is_assignable result x)
    ∷ []) >>
    pure (T.Return t (Some (cast_to result x)))
