use Rattle.std.proofs.Common.{◌≡◌, take}
use Rattle.pw_interp_world.proofs.lists.listed.Given as goal

abbrev pub invariant-loop-name : goal.invariant-loop-name
invariant-loop-name l = l.list ≡ take l.name-index l.names
