use Rattle.std.proofs.Common.{◌≡◌, map, arith, ap, ◌∙◌}
use Rattle.std.proofs.lemmas.Grind.{common_steps}
use Rattle.pw_check_state.specs.PhraseViews.{view_parameters}
use Rattle.pw_types.specs.Views.{view_qtype}
use Rattle.pw_check_rules.specs.Kinds.{types_in}
use Rattle.pw_check_declarator.proofs.Lists.{types_shown}
use Rattle.pw_check_declarator.proofs.parameters.parameter_types.Goals as goal

pub returns : goal.returns
returns c =
    let all : map view_qtype c.loop-parameter.types.items ≡ map (λ p. p.ty) (view_parameters c.args.parameters.now) = grind (arith, common_steps) in
    types_shown c.loop-parameter.types.items ∙ ap types_in all
