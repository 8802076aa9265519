use Rattle.std.proofs.Common.{sym, ◌∙◌}
use Rattle.pw_typed.specs.Views.{view_stmt}
use Rattle.pw_interp_todo.specs.Flows.{view_entry}
use Rattle.pw_interp_entries.proofs.Listing.{items_met, items_unmet}
use Rattle.pw_interp_entries.proofs.lists.member.Goals as goal

pub returns-then-enters : goal.returns-then-enters
returns-then-enters c e n s = items_met e n s (view_stmt c.args.first.now) _ (view_entry c.args.at) (sym c.enters.ensures ∙ c.if-enters.true)

pub returns-else-enters : goal.returns-else-enters
returns-else-enters c e n s = items_unmet e n s (view_stmt c.args.first.now) _ (view_entry c.args.at) (sym c.enters.ensures ∙ c.if-enters.false)
