use Rattle.std.proofs.Common.{◌≡◌, ℕ, List, map, take}
use Rattle.std.specs.List.{flat_map}
use Rattle.pw_link.specs.Linking.{items_of}
use Rattle.pw_link.specs.Views.{standing_view, Tells}
use Rattle.pw_link.proofs.image.items.Given as goal

abbrev pub invariant-loop-each : goal.invariant-loop-each
invariant-loop-each l = (named : List (List ℕ × ℕ)) → Tells l.sites.names.entries named → l.items ≡ flat_map (items_of named) (map standing_view (take l.each-index l.objects))
