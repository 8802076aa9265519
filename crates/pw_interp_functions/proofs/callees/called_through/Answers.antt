use Rattle.std.proofs.Common.{ap, sym, ◌∙◌}
use Rattle.std.specs.Prelude.{option_map}
use Rattle.pw_types.specs.Views.{view_type}
use Rattle.pw_cmean.specs.Acts.{undefined}
use Rattle.pw_cmean.specs.SourceRun as runs
use Rattle.pw_interp_calls.specs.Functions.{callable_of}
use Rattle.pw_interp_calls.specs.Views.{view_env}
use Rattle.pw_interp_todo.proofs.LeadLaws.{followed, same_lead}
use Rattle.pw_interp_functions.proofs.CallLaws.{no_function}
use Rattle.pw_interp_functions.proofs.Continuing.{ends_continue}
use Rattle.pw_interp_functions.proofs.callees.called_through.Goals as goal

pub returns-in-Some : goal.returns-in-Some
returns-in-Some c vs n w = c.checked.ensures c.args.p vs n w (sym c.pointed_function.ensures ∙ ap (option_map callable_of) c.in-Some.is)

pub returns-in-None : goal.returns-in-None
unfolding undefined
returns-in-None c vs n w =
    let e = view_env c.args.env.now in
    followed (same_lead (no_function e (runs.calls e.world n) c.args.token (view_type c.args.ty.now) c.args.p vs (sym c.pointed_function.ensures ∙ ap (option_map callable_of) c.in-None.is)))
    (ends_continue c.undefined_at.ensures)
