use Rattle.std.proofs.Common.{◌≡◌, map, take}
use Rattle.pw_check_state.specs.PhraseViews.{view_parameters}
use Rattle.pw_check_rules.specs.Functions.{parameter_local}
use Rattle.pw_typed.specs.Views.{view_locals}
use Rattle.pw_check_heads.proofs.locals.parameter_locals.Given as goal

-- those so far
abbrev pub invariant-loop-parameter : goal.invariant-loop-parameter
invariant-loop-parameter l = view_locals l.locals.items ≡ map parameter_local (view_parameters (take l.parameter-index l.parameters))
