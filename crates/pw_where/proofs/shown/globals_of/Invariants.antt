use Rattle.std.proofs.Common.{◌≡◌, map, take}
use Rattle.pw_where.specs.Looks.{globals_of}
use Rattle.pw_where.proofs.shown.globals_of.Given as goal

abbrev pub invariant-loop-object : goal.invariant-loop-object
invariant-loop-object l = map (λ g. g.now) l.all.items ≡ globals_of (take l.object-index l.objects)
