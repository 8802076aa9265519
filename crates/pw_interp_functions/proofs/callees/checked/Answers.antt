use Rattle.std.proofs.Common.{rules, refl, sym, ◌∙◌}
use Rattle.pw_types.specs.Views.{view_type}
use Rattle.pw_cmean.specs.Acts.{undefined}
use Rattle.pw_cmean.specs.SourceRun as runs
use Rattle.pw_interp_calls.specs.Functions.{callable_of}
use Rattle.pw_interp_calls.specs.Views.{view_env}
use Rattle.pw_interp_todo.proofs.LeadLaws.{followed, left_so, no_memory, same_lead}
use Rattle.pw_interp_functions.proofs.CallLaws.{that_shape, other_shape}
use Rattle.pw_interp_functions.proofs.Continuing.{ends_continue}
use Rattle.pw_interp_functions.proofs.callees.checked.Goals as goal

pub returns-in_err-agrees : goal.returns-in_err-agrees
returns-in_err-agrees c p vs n w is = no_memory (search rules)

pub returns-then-agrees : goal.returns-then-agrees
returns-then-agrees c p vs n w is =
    let e = view_env c.args.env.now in
    left_so _ refl (same_lead (that_shape e (runs.calls e.world n) c.args.token (view_type c.args.ty.now) p vs (callable_of c.args.function) is (sym c.in_ok-agrees.ensures ∙ c.if-agrees.true)))

pub returns-else-agrees : goal.returns-else-agrees
unfolding undefined
returns-else-agrees c p vs n w is =
    let e = view_env c.args.env.now in
    followed (same_lead (other_shape e (runs.calls e.world n) c.args.token (view_type c.args.ty.now) p vs (callable_of c.args.function) is (sym c.in_ok-agrees.ensures ∙ c.if-agrees.false)))
    (ends_continue c.undefined_at.ensures)
