use Rattle.std.proofs.Common.{rules}
use Rattle.pw_interp_calls.specs.Functions.{callable_of}
use Rattle.pw_interp_calls.specs.WorldViews.{view_world}
use Rattle.pw_interp_world.specs.declared.program.Body.TheVariants as B
use Rattle.pw_interp_machine.proofs.Entering.{begins_err, bound_ends}
use Rattle.pw_interp_machine.proofs.calls.begin_bounded.Goals as goal

pub returns-in_err-bound : goal.returns-in_err-bound
returns-in_err-bound c =
    let none = c.in_err-bound.ensures.none in
    begins_err _ (search rules) (bound_ends _ (view_world c.args.world.now) c.args.bound (callable_of (B.Defined c.args.home c.args.f)) c.args.args.now _ none.0 none.1)

pub returns : goal.returns
returns c = c.begin_call.ensures c.args.bound c.in_ok-bound.ensures.lower
