use Rattle.std.proofs.Common.{rules}
use Rattle.pw_interp_state.specs.Shown.{view_state}
use Rattle.pw_interp_calls.proofs.AnswerLaws.{then_ok, then_err}
use Rattle.pw_interp_todo.specs.Operands.{tested}
use Rattle.pw_interp_todo.proofs.needs.tested.Goals as goal

pub returns-in_err-value : goal.returns-in_err-value
unfolding tested
returns-in_err-value c = then_err _ (c.used.ensures.answers (view_state c.args.state.now)) c.in_err-value.was (search rules)

pub returns : goal.returns
unfolding tested
returns c = then_ok _ (c.used.ensures.answers (view_state c.args.state.now)) c.in_ok-value.was c.truth.ensures.answers
