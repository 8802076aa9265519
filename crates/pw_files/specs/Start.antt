-- The rule of $start as one of a file, whose place is known.
use Rattle.std.specs.Prelude.{ℕ, List, Option, Some, None, if◌then◌else◌}
use Rattle.pw_value.specs.ProgramNames.{keeps_start}

-- where the rule is broken, so many bytes are left
abbrev pub start_rule : List (List ℕ) → List (List ℕ) → ℕ → Option ℕ
start_rule functions globals left = if keeps_start functions globals then None else Some left

-- the first of two rules that is broken
abbrev pub sooner : Option ℕ → Option ℕ → Option ℕ
sooner None later = later
sooner (Some left) later = Some left
