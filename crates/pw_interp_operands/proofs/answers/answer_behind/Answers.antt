use Rattle.pw_types.specs.Views.{view_qtype}
use Rattle.pw_typed.specs.Views.{view_form}
use Rattle.pw_interp_calls.specs.Views.{view_env}
use Rattle.pw_interp_state.specs.Shown.{view_state}
use Rattle.pw_interp_operands.proofs.answers.answer_behind.Goals as goal

pub returns-in-Value : goal.returns-in-Value
returns-in-Value c bound = c.on_values.ensures bound

pub returns-in-Place : goal.returns-in-Place
returns-in-Place c bound = c.at_place.ensures bound

pub returns-in-Nothing : goal.returns-in-Nothing
returns-in-Nothing c bound =
    let n = c.args.e.now in
    c.nothing.ensures (view_env c.args.env.now) n.token (view_qtype n.ty) (view_form n.form) c.args.given (view_state c.args.state.now) c.in-Nothing.ensures bound
