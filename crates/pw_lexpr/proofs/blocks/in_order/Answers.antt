use Rattle.std.proofs.Common.{arith}
use Rattle.std.proofs.lemmas.Grind.{common_steps}
use Rattle.pw_lexpr.proofs.PlacingLaws.{placed_blocks}
use Rattle.pw_lexpr.proofs.blocks.in_order.Goals as goal

pub returns : goal.returns
returns c =
    let p = placed_blocks c.args.closed c.args.count in
    first_of (cc, grind (arith, common_steps))
