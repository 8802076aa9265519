use Rattle.std.proofs.Common.{sym, ◌∙◌}
use Rattle.pw_types.specs.Views.{view_qtype}
use Rattle.pw_typed.specs.Views.{view_form}
use Rattle.pw_interp_calls.specs.Views.{view_env}
use Rattle.pw_interp_state.specs.Shown.{view_state}
use Rattle.pw_interp_operands.proofs.places.place_behind.Goals as goal

pub by_form-requires : goal.by_form-requires
by_form-requires c = sym c.has_place_behind.ensures ∙ c.if-has_place_behind.true

pub returns-then-has_place_behind : goal.returns-then-has_place_behind
returns-then-has_place_behind c bound = c.by_form.ensures bound

pub returns-else-has_place_behind : goal.returns-else-has_place_behind
returns-else-has_place_behind c bound =
    let n = c.args.e.now in
    c.nothing.ensures (view_env c.args.env.now) n.token (view_qtype n.ty) (view_form n.form) c.args.given (view_state c.args.state.now) (sym c.has_place_behind.ensures ∙ c.if-has_place_behind.false) bound
