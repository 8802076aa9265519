use Rattle.std.proofs.Common.{◌≡◌, map, take}
use Rattle.pw_check_state.specs.PhraseViews.{view_parameters}
use Rattle.pw_types.specs.Views.{view_qtype}
use Rattle.pw_check_declarator.proofs.parameters.parameter_types.Given as goal

abbrev pub invariant-loop-parameter : goal.invariant-loop-parameter
invariant-loop-parameter l = map view_qtype l.types.items ≡ map (λ p. p.ty) (view_parameters (take l.parameter-index l.parameters))
