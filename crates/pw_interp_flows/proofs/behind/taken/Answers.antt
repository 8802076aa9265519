use Rattle.std.proofs.Common.{sym, ◌∙◌}
use Rattle.pw_typed.specs.Views.{view_stmt}
use Rattle.pw_cmean.specs.SourceRun.{calls}
use Rattle.pw_interp_todo.specs.Flows.{view_flow}
use Rattle.pw_interp_todo.specs.Members.{taken_in}
use Rattle.pw_interp_todo.specs.Parts.{again_act}
use Rattle.pw_interp_flows.proofs.Following.{caught_none, caught_some}
use Rattle.pw_interp_entries.proofs.Listing.{again_is}
use Rattle.pw_interp_flows.proofs.behind.taken.Goals as goal

pub returns-in-Some : goal.returns-in-Some
returns-in-Some c e n s =
    let a = view_stmt c.args.s.now in
    caught_some (taken_in a) (again_act a e (calls e.world n)) s (view_flow c.args.flow) c.in-Some.label (sym c.taken_by.ensures ∙ c.in-Some.is)
    ∙ again_is c.args.s c.in-Some.label e n s

pub returns-in-None : goal.returns-in-None
returns-in-None c e n s =
    let a = view_stmt c.args.s.now in
    caught_none (taken_in a) (again_act a e (calls e.world n)) s (view_flow c.args.flow) (sym c.taken_by.ensures ∙ c.in-None.is)
