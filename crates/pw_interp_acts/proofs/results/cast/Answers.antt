use Rattle.std.proofs.Common.{ap, ◌∙◌}
use Rattle.pw_types.specs.Views.{view_type}
use Rattle.pw_interp_state.specs.Categories.{category_of}
use Rattle.pw_interp_acts.specs.Results.{cast_to}
use Rattle.pw_interp_acts.proofs.NodeLaws.{known, node_answers, cast_is}
use Rattle.pw_cmean.specs.Evaluation.{site}
use Rattle.pw_interp_calls.specs.Views.{view_env}
use Rattle.pw_interp_acts.proofs.results.cast.Goals as goal

pub returns-clause-answers : goal.returns-clause-answers
returns-clause-answers c = λ s. node_answers (site (view_env c.args.env.now) c.args.token) c.cast_to.result (λ o. cast_to (category_of (view_type c.args.ty.now)) c.args.answer) c.settle.ensures (c.cast_to.ensures ∙ ap (λ k. cast_to k c.args.answer) c.categorise.ensures) (cast_is _ _ _)

pub returns-clause-no_memory : goal.returns-clause-no_memory
returns-clause-no_memory c = known c.settle.result c.settle.ensures
