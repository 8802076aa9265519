use Rattle.std.proofs.Common.{ap, ◌∙◌}
use Rattle.pw_types.specs.Views.{view_type}
use Rattle.pw_interp_state.specs.Categories.{category_of}
use Rattle.pw_interp_acts.specs.Results.{value_by}
use Rattle.pw_interp_acts.proofs.NodeLaws.{known, node_answers, value_is}
use Rattle.pw_cmean.specs.Evaluation.{site}
use Rattle.pw_interp_calls.specs.Views.{view_env}
use Rattle.pw_interp_acts.proofs.results.value_at.Goals as goal

pub returns-clause-answers : goal.returns-clause-answers
returns-clause-answers c = node_answers (site (view_env c.args.env.now) c.args.token) c.value_by-answer.result (λ o. value_by o (category_of (view_type c.args.ty.now.ty)) c.args.place) c.settle.ensures (c.value_by-answer.ensures ∙ ap (λ k. value_by c.args.state.now.objects k c.args.place) c.categorise.ensures) (value_is _ _ _ _)

pub returns-clause-no_memory : goal.returns-clause-no_memory
returns-clause-no_memory c = known c.settle.result c.settle.ensures
