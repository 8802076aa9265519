use Rattle.std.proofs.Common.{rules, arith}
use Rattle.pw_check_literals.proofs.Numbers.{number_step}
use Rattle.pw_check_literals.proofs.integers.number.Goals as goal

pub loop-rest-preserved : goal.loop-rest-preserved
loop-rest-preserved c =
    let e = number_step c.args.base c.loop-rest.number 0 c.loop-rest.rest.now in
    grind (rules, arith, e)
