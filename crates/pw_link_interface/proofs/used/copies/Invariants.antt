use Rattle.std.proofs.Common.{◌≡◌, map, take}
use Rattle.pw_link_interface.proofs.used.copies.Given as goal

abbrev pub invariant-loop-name : goal.invariant-loop-name
invariant-loop-name l = l.all ≡ map (λ name. name.now) (take l.name-index l.names)
