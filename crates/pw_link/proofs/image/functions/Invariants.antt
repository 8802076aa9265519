use Rattle.std.proofs.Common.{◌≡◌, map, take}
use Rattle.pw_link.specs.Linking.{function_of}
use Rattle.pw_link.specs.Views.{placed_view}
use Rattle.pw_link.proofs.image.functions.Given as goal

abbrev pub invariant-loop-each : goal.invariant-loop-each
invariant-loop-each l = l.functions ≡ map function_of (map placed_view (take l.each-index l.text))
