use Rattle.std.proofs.Common.{◌≡◌, map, take}
use Rattle.pw_colour.specs.Colours.{webs_of}
use Rattle.pw_colour.specs.Giving.{coloured as seen}
use Rattle.pw_colour.proofs.directing.webs_of.Given as goal

abbrev pub invariant-loop-each : goal.invariant-loop-each
invariant-loop-each l = l.webs ≡ webs_of l.graph (map seen (take l.each-index l.coloured)) l.place
