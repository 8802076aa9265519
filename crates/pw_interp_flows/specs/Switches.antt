-- What a switch holds (ISO C90 6.6.4.2).
use Rattle.std.specs.Prelude.{ℕ, Option, Some, None, List}
use Rattle.pw_types.specs.TypedTrees.{CaseValue, Statement, Switch}

-- its cases, the label of its default, and its body
abbrev pub switch_in : Statement → Option (List CaseValue × Option ℕ × Statement)
switch_in (Switch t a cases default body) = Some (cases, default, body)
switch_in _ = None
