use Rattle.pw_interp_acts.specs.Results.{present}
use Rattle.pw_interp_acts.proofs.NodeLaws.{known, node_answers, used_is}
use Rattle.pw_cmean.specs.Evaluation.{site}
use Rattle.pw_interp_calls.specs.Views.{view_env}
use Rattle.pw_interp_acts.proofs.results.used.Goals as goal

pub returns-clause-answers : goal.returns-clause-answers
returns-clause-answers c = λ s. node_answers (site (view_env c.args.env.now) c.args.token) c.present.result (λ o. present c.args.answer) c.settle.ensures (c.present.ensures) (used_is _ _)

pub returns-clause-no_memory : goal.returns-clause-no_memory
returns-clause-no_memory c = known c.settle.result c.settle.ensures
