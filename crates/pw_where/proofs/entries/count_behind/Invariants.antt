use Rattle.std.proofs.Common.{◌≡◌, ◌-◌, take}
use Rattle.pw_where.specs.Calls.{count_of}
use Rattle.pw_where.proofs.entries.count_behind.Given as goal

abbrev pub invariant-loop-object : goal.invariant-loop-object
invariant-loop-object l = l.left ≡ l.fn.functions - count_of (take l.object-index l.objects)
