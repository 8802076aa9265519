use Rattle.std.proofs.Common.{rules}
use Rattle.pw_cmean.specs.Evaluation.{answer_of}
use Rattle.pw_interp_calls.proofs.AnswerLaws.{then_ok, then_err}
use Rattle.pw_types.specs.Views.{view_qtype}
use Rattle.pw_interp_asks.proofs.names.local.Goals as goal

pub returns-in_err-place-clause-evaluates : goal.returns-in_err-place-clause-evaluates
unfolding answer_of
returns-in_err-place-clause-evaluates c bound = then_err _ (c.own_place.ensures.locates bound c.args.token (view_qtype c.args.ty.now) _) c.in_err-place.was (search rules)

pub returns-clause-evaluates : goal.returns-clause-evaluates
unfolding answer_of
returns-clause-evaluates c bound = then_ok _ (c.own_place.ensures.locates bound c.args.token (view_qtype c.args.ty.now) _) c.in_ok-place.was c.value_at.ensures.answers
