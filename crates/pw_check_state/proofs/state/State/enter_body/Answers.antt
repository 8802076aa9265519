use Rattle.pw_typed.specs.Views.{view_locals}
use Rattle.pw_types.specs.Views.{view_qtype}
use Rattle.pw_check_state.specs.PhraseViews.{view_bindings}
use Rattle.pw_check_state.proofs.StateLemmas.{entered_by}
use Rattle.pw_check_state.proofs.state.State.enter_body.Goals as goal

pub returns : goal.returns
returns c =
    entered_by
    (view_qtype c.args.result_type) (view_locals c.args.locals.items) (view_bindings c.args.bindings.now) c.args.names
    c.args.self.now c.put_body.new.self c.enter_parameters.new.self c.in_ok-body.body
    c.put_body.ensures c.in_ok-enter_parameters.ensures c.in_ok-body.ensures
