use Rattle.pw_interp_state.specs.Operations.{truth_of}
use Rattle.pw_interp_state.proofs.OperatorLaws.{truth_is}
use Rattle.pw_interp_acts.proofs.NodeLaws.{known, node_answers}
use Rattle.pw_cmean.specs.Evaluation.{site}
use Rattle.pw_interp_calls.specs.Views.{view_env}
use Rattle.pw_interp_acts.proofs.nodes.truth.Goals as goal

pub returns-clause-answers : goal.returns-clause-answers
returns-clause-answers c = node_answers (site (view_env c.args.env.now) c.args.token) c.truth.result (λ o. truth_of o c.args.v) c.settle.ensures (c.truth.ensures) (truth_is _ _)

pub returns-clause-no_memory : goal.returns-clause-no_memory
returns-clause-no_memory c = known c.settle.result c.settle.ensures
