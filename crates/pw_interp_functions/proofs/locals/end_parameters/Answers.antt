use Rattle.std.proofs.Common.{◌-◌, arith}
use Rattle.std.proofs.lemmas.Grind.{common_steps}
use Rattle.pw_interp_functions.proofs.Making.{ended_step}
use Rattle.pw_interp_functions.proofs.locals.end_parameters.Goals as goal

pub loop-left-preserved : goal.loop-left-preserved
loop-left-preserved c =
    let step = ended_step c.loop-left.left (c.loop-left.left - 1) c.args.number c.loop-left.objects (omega arith) in
    let ends = c.end_behind.ensures in
    let inv = c.loop-left.invariant in
    first_of (cc, grind (arith, common_steps))
