use Rattle.std.proofs.Common.{sym, ◌∙◌}
use Rattle.pw_typed.specs.Views.{view_stmt}
use Rattle.pw_interp_entries.proofs.Listing.{later_met, later_unmet}
use Rattle.pw_interp_entries.proofs.lists.arm_at.Goals as goal

pub returns-then-has_label : goal.returns-then-has_label
returns-then-has_label c e n s = later_met e n s (view_stmt c.args.arm.now.body) _ _ c.args.label (sym c.has_label.ensures ∙ c.if-has_label.true)

pub returns-else-has_label : goal.returns-else-has_label
returns-else-has_label c e n s = later_unmet e n s (view_stmt c.args.arm.now.body) _ _ c.args.label (sym c.has_label.ensures ∙ c.if-has_label.false)
