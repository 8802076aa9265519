use Rattle.std.proofs.Common.{ap, pos, ◌∙◌}
use Rattle.pw_interp_state.specs.Operations.{advanced}
use Rattle.pw_interp_state.proofs.OperatorLaws.{advance_is}
use Rattle.pw_interp_acts.proofs.NodeLaws.{known, node_answers}
use Rattle.pw_cmean.specs.Evaluation.{site}
use Rattle.pw_interp_calls.specs.Views.{view_env}
use Rattle.pw_interp_acts.proofs.nodes.advance.Goals as goal

pub returns-clause-answers : goal.returns-clause-answers
returns-clause-answers c = node_answers (site (view_env c.args.env.now) c.args.token) c.advance-answer.result (λ o. advanced o c.args.p (pos c.args.offset)) c.settle.ensures (c.advance-answer.ensures ∙ ap (λ n. advanced c.args.state.now.objects c.args.p (pos n)) c.from.ensures) (advance_is _ _ _)

pub returns-clause-no_memory : goal.returns-clause-no_memory
returns-clause-no_memory c = known c.settle.result c.settle.ensures
