use Rattle.std.proofs.Common.{◌≡◌, map, take}
use Rattle.pw_build_objects.specs.Choosing.{objects_of}
use Rattle.pw_build_objects.proofs.making.objects_in.Given as goal

abbrev pub invariant-loop-one : goal.invariant-loop-one
invariant-loop-one l = map (λ o. o.now) l.objects.items ≡ objects_of (take l.one-index l.made)
