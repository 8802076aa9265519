use Rattle.std.proofs.Common.{sym, ap, ◌∙◌}
use Rattle.std.specs.Prelude.{option_map}
use Rattle.std.specs.Borrow.{Bor}
use Rattle.pw_typed.specs.Views.{view_stmt}
use Rattle.pw_typed.specs.declared.tree.TStmt.{TStmt}
use Rattle.pw_interp_todo.specs.Flows.{view_entry}
use Rattle.pw_interp_entries.proofs.Turning.{turned_in, no_body}
use Rattle.pw_interp_entries.proofs.loops.turn.Goals as goal

pub returns-in-Some : goal.returns-in-Some
returns-in-Some c e n s =
    turned_in (view_stmt c.args.s.now) e n s c.in-Some.body.now (view_entry c.args.at) (sym c.body_in.ensures ∙ ap (option_map (λ (b : Bor TStmt). view_stmt b.now)) c.in-Some.is)

pub returns-in-None : goal.returns-in-None
returns-in-None c e n s =
    no_body (view_stmt c.args.s.now) e n s (view_entry c.args.at) (sym c.body_in.ensures ∙ ap (option_map (λ (b : Bor TStmt). view_stmt b.now)) c.in-None.is)
