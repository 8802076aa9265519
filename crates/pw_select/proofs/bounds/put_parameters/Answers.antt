use Rattle.std.proofs.Common.{rules, arith}
use Rattle.std.proofs.lemmas.Grind.{common_steps}
use Rattle.pw_select.proofs.Steps.{parameters_more}
use Rattle.pw_select.proofs.bounds.put_parameters.Goals as goal

pub loop-k-preserved : goal.loop-k-preserved
loop-k-preserved c =
    let step = parameters_more c.args.frame c.args.places.now c.loop-k.k c.args.count (omega arith) in
    grind (rules, arith, common_steps, step)
