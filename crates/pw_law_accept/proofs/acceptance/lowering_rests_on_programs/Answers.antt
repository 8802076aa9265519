use Rattle.pw_law_accept.proofs.acceptance.lowering_rests_on_programs.Goals as goal

pub returns : goal.returns
returns g = λ programs. g.layers_rest_on_programs.ensures programs g.accepted_is_lowerable.ensures
