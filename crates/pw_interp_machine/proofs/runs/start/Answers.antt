use Rattle.std.proofs.Common.{ap, [], refl}
use Rattle.pw_cmean.specs.Acts.{◌>>=◌}
use Rattle.pw_cmean.specs.SourceRun.{calls, finish}
use Rattle.pw_interp_state.specs.Shown.{view_state}
use Rattle.pw_interp_calls.specs.Functions.{callable_of}
use Rattle.pw_interp_calls.specs.WorldViews.{view_world}
use Rattle.pw_interp_world.specs.declared.program.Body.TheVariants as B
use Rattle.pw_interp_machine.proofs.Entering.{defined_is}
use Rattle.pw_interp_machine.proofs.Standings.{starts_named}
use Rattle.pw_interp_machine.proofs.runs.start.Goals as goal

pub returns : goal.returns
returns c =
    let world = view_world c.args.world.now in
    let f = B.Defined c.args.home c.args.f in
    let main = (callable_of f).body in
    starts_named (ap (λ act. act >>= finish main) (defined_is world (calls world c.args.bound) f _ _ [] refl))
    (c.started.ensures main world _ (view_state c.args.state.now) _ c.begin_bounded-begun.ensures)
