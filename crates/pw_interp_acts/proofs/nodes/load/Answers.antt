use Rattle.std.proofs.Common.{ap, ◌∙◌}
use Rattle.pw_types.specs.Views.{view_type}
use Rattle.pw_interp_state.specs.Categories.{category_of}
use Rattle.pw_interp_state.specs.Accesses.{loaded}
use Rattle.pw_interp_state.proofs.AccessLaws.{load_is}
use Rattle.pw_interp_acts.proofs.NodeLaws.{known, node_answers}
use Rattle.pw_cmean.specs.Evaluation.{site}
use Rattle.pw_interp_calls.specs.Views.{view_env}
use Rattle.pw_interp_acts.proofs.nodes.load.Goals as goal

pub returns-clause-answers : goal.returns-clause-answers
returns-clause-answers c = node_answers (site (view_env c.args.env.now) c.args.token) c.load-answer.result (λ o. loaded o (category_of (view_type c.args.ty.now)) c.args.place) c.settle.ensures (c.load-answer.ensures ∙ ap (λ k. loaded c.args.state.now.objects k c.args.place) c.categorise.ensures) (load_is _ _ _)

pub returns-clause-no_memory : goal.returns-clause-no_memory
returns-clause-no_memory c = known c.settle.result c.settle.ensures
