use Rattle.std.proofs.Common.{map, ap, sym, ◌∙◌}
use Rattle.pw_types.specs.Views.{view_qtype}
use Rattle.pw_typed.specs.Views.{view_placed}
use Rattle.pw_check_rules.specs.States.{with_types}
use Rattle.pw_check_state.specs.StateViews.{view_state}
use Rattle.pw_check_state.proofs.LinkedLemmas.{change_is}
use Rattle.pw_check_state.proofs.state.State.set_linked_items.Goals as goal

pub returns : goal.returns
unfolding view_state
returns c =
    ap (λ ls. with_types (λ t. record t { linked = ls }) (view_state c.args.self.now)) c.set_items.ensures
    ∙ sym (change_is c.args.place (λ l. record l { ty = view_qtype c.args.ty; items = map view_placed c.args.items.items }) (view_state c.args.self.now))
