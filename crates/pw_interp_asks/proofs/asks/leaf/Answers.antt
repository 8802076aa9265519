use Rattle.std.proofs.Common.{Some, ap}
use Rattle.pw_value.specs.declared.value.Value.TheVariants as V
use Rattle.pw_types.specs.TypedTrees as tree
use Rattle.pw_types.specs.Views.{view_qtype}
use Rattle.pw_typed.specs.Views.{view_form}
use Rattle.pw_cmean.specs.Evaluation.{answer_of}
use Rattle.pw_cmean.specs.SourceRun.{calls}
use Rattle.pw_interp_calls.specs.Views.{view_env}
use Rattle.pw_interp_calls.proofs.AnswerLaws.{same, gives}
use Rattle.pw_interp_asks.proofs.asks.leaf.Goals as goal

pub returns-in-Number : goal.returns-in-Number
unfolding answer_of view_form
returns-in-Number c bound =
    let e = view_env c.args.env.now in
    same (ap (λ form. answer_of (tree.Node c.args.e.now.token (view_qtype c.args.e.now.ty) form) (calls e.world bound) e) (ap view_form c.in-Number.is)) (gives (Some (V.Num c.in-Number.n)))
