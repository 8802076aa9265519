use Rattle.std.proofs.Common.{◌≡◌, map, take}
use Rattle.std.specs.List.{flat_map}
use Rattle.pw_live.specs.Points.{points_in}
use Rattle.pw_live_held.specs.Makers.{maker}
use Rattle.pw_live_held.proofs.points.find_makers.Given as goal

abbrev pub invariant-loop-block : goal.invariant-loop-block
invariant-loop-block l = l.makers.items ≡ map maker (flat_map points_in (take l.block-index l.f.blocks))
