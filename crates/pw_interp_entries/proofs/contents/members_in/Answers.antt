use Rattle.std.proofs.Common.{ap, sym, ◌∙◌}
use Rattle.pw_typed.specs.Views.{view_stmt_form, view_stmts}
use Rattle.pw_typed.proofs.Rows.{block_view}
use Rattle.pw_interp_todo.specs.Members.{members_in}
use Rattle.pw_interp_entries.proofs.contents.members_in.Goals as goal

pub returns-in-Block : goal.returns-in-Block
returns-in-Block c =
    let t = c.args.s.now.token in
    let b = c.in-Block in
    ap view_stmts c.deref.ensures.value ∙ sym (ap members_in (ap (view_stmt_form t) b.is ∙ block_view t b.first b.count b.initialisers b.items))
