use Rattle.std.proofs.Common.{◌≡◌, drop, is_some}
use Rattle.std.specs.List.{list_all}
use Rattle.pw_check_state.specs.PhraseViews.{view_parameters}
use Rattle.pw_check_heads.proofs.heads.are_named.Given as goal

-- all have names where those that are left have
abbrev pub invariant-loop-parameter : goal.invariant-loop-parameter
invariant-loop-parameter l =
    list_all (λ p. is_some p.name) (view_parameters l.parameters) ≡ list_all (λ p. is_some p.name) (view_parameters (drop l.parameter-index l.parameters))
