use Rattle.std.proofs.Common.{ap, sym, ◌∙◌}
use Rattle.pw_typed.specs.Views.{view_arms, view_stmt_form}
use Rattle.pw_typed.proofs.Rows.{if_view}
use Rattle.pw_interp_todo.specs.Members.{arms_in}
use Rattle.pw_interp_entries.proofs.contents.arms_in.Goals as goal

pub returns-in-If : goal.returns-in-If
returns-in-If c =
    let t = c.args.s.now.token in
    let b = c.in-If in
    ap view_arms c.deref.ensures.value ∙ sym (ap arms_in (ap (view_stmt_form t) b.is ∙ if_view t b.arms b.field-1))
