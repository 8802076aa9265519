use Rattle.std.proofs.Common.{rules}
use Rattle.pw_cmean.specs.Evaluation.{answer_of}
use Rattle.pw_interp_calls.proofs.AnswerLaws.{then_ok, then_err}
use Rattle.pw_types.specs.Views.{view_qtype}
use Rattle.pw_interp_asks.proofs.names.string.Goals as goal

pub returns-in_err-place : goal.returns-in_err-place
unfolding answer_of
returns-in_err-place c bound = then_err _ (c.string_place.ensures bound c.args.token (view_qtype c.args.ty.now) _) c.in_err-place.was (search rules)

pub returns : goal.returns
unfolding answer_of
returns c bound = then_ok _ (c.string_place.ensures bound c.args.token (view_qtype c.args.ty.now) _) c.in_ok-place.was c.value_at.ensures.answers
