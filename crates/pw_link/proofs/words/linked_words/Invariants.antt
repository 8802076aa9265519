use Rattle.std.proofs.Common.{◌≡◌, ℕ, List, map, take}
use Rattle.std.specs.List.{flat_map}
use Rattle.pw_link.specs.Linking.{piece_words}
use Rattle.pw_link.specs.Views.{placed_view, Tells, plain_sites}
use Rattle.pw_link.proofs.words.linked_words.Given as goal

abbrev pub invariant-loop-placed : goal.invariant-loop-placed
invariant-loop-placed l = (named : List (List ℕ × ℕ)) → Tells l.sites.names.entries named → l.words.items ≡ flat_map (piece_words (plain_sites named l.sites)) (map placed_view (take l.placed-index l.text))
