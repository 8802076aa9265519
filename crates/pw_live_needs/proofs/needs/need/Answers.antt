use Rattle.std.proofs.Common.{arith}
use Rattle.pw_live_needs.proofs.needs.need.Goals as goal

pub returns : goal.returns
returns c =
    let most = c.in_ok-most.ensures in
    let changed = c.from-changed.ensures in
    let beside = c.saturating_sub-beside.ensures in
    let limit = c.from.ensures in
    let least = c.min.ensures in
    omega (arith, most, changed, beside, limit, least)
