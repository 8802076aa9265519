use Rattle.std.proofs.Common.{◌≡◌, map, take}
use Rattle.pw_colour.specs.Colours.{numbered}
use Rattle.pw_colour.specs.Giving.{coloured, paired}
use Rattle.pw_colour.proofs.directing.numbered.Given as goal

abbrev pub invariant-loop-i : goal.invariant-loop-i
invariant-loop-i l = map coloured l.found.items ≡ numbered 0 (paired (take l.i l.webs) (take l.i l.registers))
