use Rattle.std.proofs.Common.{rules}
use Rattle.pw_interp_state.specs.Shown.{view_state}
use Rattle.pw_interp_calls.proofs.AnswerLaws.{then_ok, then_err}
use Rattle.pw_interp_functions.specs.Copies.{by_bytes}
use Rattle.pw_interp_functions.proofs.values.initialise_bytes.Goals as goal

pub returns-in_err-source : goal.returns-in_err-source
unfolding by_bytes
returns-in_err-source c = then_err _ (c.symbol_place.ensures (view_state c.args.state.now)) c.in_err-source.was (search rules)

pub returns-in_err-place : goal.returns-in_err-place
unfolding by_bytes
returns-in_err-place c =
    then_ok _ (c.symbol_place.ensures (view_state c.args.state.now)) c.in_ok-source.was
    (then_err _ (c.local_place.ensures.answers (view_state c.args.state.now)) c.in_err-place.was (search rules))

pub returns : goal.returns
unfolding by_bytes
returns c =
    then_ok _ (c.symbol_place.ensures (view_state c.args.state.now)) c.in_ok-source.was
    (then_ok _ (c.local_place.ensures.answers (view_state c.args.state.now)) c.in_ok-place.was c.copy_all.ensures)
