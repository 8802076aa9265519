use Rattle.std.proofs.Common.{◌≡◌, map, take}
use Rattle.pw_link.specs.Linking.{global_of}
use Rattle.pw_link.specs.Views.{standing_view}
use Rattle.pw_link.proofs.image.globals.Given as goal

abbrev pub invariant-loop-each : goal.invariant-loop-each
invariant-loop-each l = l.globals ≡ map (global_of l.start) (map standing_view (take l.each-index l.objects))
