use Rattle.std.proofs.Common.{ap, ◌∙◌}
use Rattle.pw_types.specs.Views.{view_type}
use Rattle.pw_interp_state.specs.Categories.{category_of}
use Rattle.pw_interp_state.specs.Operations.{unary_by}
use Rattle.pw_interp_state.proofs.OperatorLaws.{unary_is}
use Rattle.pw_interp_acts.proofs.NodeLaws.{known, node_answers}
use Rattle.pw_cmean.specs.Evaluation.{site}
use Rattle.pw_interp_calls.specs.Views.{view_env}
use Rattle.pw_interp_acts.proofs.nodes.unary.Goals as goal

pub returns-clause-answers : goal.returns-clause-answers
returns-clause-answers c = node_answers (site (view_env c.args.env.now) c.args.token) c.unary-answer.result (λ o. unary_by o c.args.op (category_of (view_type c.args.ty.now)) c.args.v) c.settle.ensures (c.unary-answer.ensures ∙ ap (λ k. unary_by c.args.state.now.objects c.args.op k c.args.v) c.categorise.ensures) (unary_is _ _ _ _)

pub returns-clause-no_memory : goal.returns-clause-no_memory
returns-clause-no_memory c = known c.settle.result c.settle.ensures
