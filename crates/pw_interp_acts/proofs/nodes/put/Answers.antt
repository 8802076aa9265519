use Rattle.std.proofs.Common.{rules}
use Rattle.pw_types.specs.Views.{view_type}
use Rattle.pw_types.specs.Layouts.{layout_of}
use Rattle.pw_cmean.specs.Evaluation.{site, records_of}
use Rattle.pw_interp_state.specs.Categories.{category_of, view_purpose}
use Rattle.pw_interp_state.specs.Accesses.{value_put}
use Rattle.pw_interp_state.proofs.AccessLaws.{put_is}
use Rattle.pw_interp_calls.specs.Views.{view_env}
use Rattle.pw_interp_calls.proofs.AnswerLaws.{no_memory}
use Rattle.pw_interp_acts.proofs.NodeLaws.{node_changes}
use Rattle.pw_interp_acts.proofs.nodes.put.Goals as goal

pub returns-in_err-answer : goal.returns-in_err-answer
returns-in_err-answer c = no_memory (search rules)

pub returns : goal.returns
returns c =
    let ty = view_type c.args.ty.now in
    node_changes (site (view_env c.args.env.now) c.args.token) c.in_ok-answer.answer (λ o. value_put (view_purpose c.args.purpose) o (category_of ty) (layout_of (records_of (view_env c.args.env.now)) ty) c.args.place c.args.value)
    c.settle.ensures c.in_ok-answer.ensures (put_is _ _ _ _ _ _)
