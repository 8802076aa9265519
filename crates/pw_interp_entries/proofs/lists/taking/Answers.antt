use Rattle.std.proofs.Common.{sym, ◌∙◌}
use Rattle.pw_typed.specs.Views.{view_stmt}
use Rattle.pw_cmean.specs.Execution.{caught}
use Rattle.pw_cmean.specs.SourceRun.{calls}
use Rattle.pw_interp_todo.specs.Flows.{view_entry}
use Rattle.pw_interp_todo.specs.Members.{taken_in}
use Rattle.pw_interp_todo.specs.Parts.{again_act, doing_act, once_of}
use Rattle.pw_interp_todo.proofs.ActLaws.{lead_same}
use Rattle.pw_interp_entries.proofs.Listing.{none_taken, passes_once, taking_is, taking_none}
use Rattle.pw_interp_entries.proofs.lists.taking.Goals as goal

pub once-requires : goal.once-requires
once-requires c = sym c.takes_up.ensures ∙ c.if-takes_up.true

pub returns-then-takes_up : goal.returns-then-takes_up
returns-then-takes_up c e n s =
    let a = view_stmt c.args.s.now in
    let at = view_entry c.args.at in
    let cs = calls e.world n in
    taking_is e n s a at ∙ lead_same (once_of a e at cs) (doing_act c.once.result e n) (caught (taken_in a) (again_act a e cs)) s (c.once.ensures e n s)

pub returns-else-takes_up : goal.returns-else-takes_up
returns-else-takes_up c e n s =
    let a = view_stmt c.args.s.now in
    let is = sym c.takes_up.ensures ∙ c.if-takes_up.false in
    taking_none e n s a (view_entry c.args.at) (none_taken a is) (passes_once a is e)
