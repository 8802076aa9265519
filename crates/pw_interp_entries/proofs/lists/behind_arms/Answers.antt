use Rattle.std.proofs.Common.{sym, ap, ◌∙◌}
use Rattle.pw_interp_entries.specs.Last.{view_last}
use Rattle.pw_cmean.specs.SourceRun.{calls}
use Rattle.pw_interp_todo.specs.Flows.{view_entry}
use Rattle.pw_cmean.specs.Execution.{behind_arms, meaning}
use Rattle.pw_interp_entries.proofs.lists.behind_arms.Goals as goal

pub returns-in-Some : goal.returns-in-Some
unfolding meaning
returns-in-Some c e n s =
    ap (λ o. behind_arms o (view_entry c.args.at) (calls e.world n) e s) (sym c.otherwise_in.ensures ∙ ap view_last c.in-Some.is)

pub returns-in-None : goal.returns-in-None
unfolding meaning
returns-in-None c e n s =
    ap (λ o. behind_arms o (view_entry c.args.at) (calls e.world n) e s) (sym c.otherwise_in.ensures ∙ ap view_last c.in-None.is)
