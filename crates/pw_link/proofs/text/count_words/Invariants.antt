use Rattle.std.proofs.Common.{◌≡◌, length, map, take}
use Rattle.std.specs.List.{sum_by}
use Rattle.pw_value.specs.Caps.{capped}
use Rattle.pw_link.specs.Views.{piece_view}
use Rattle.pw_link.proofs.text.count_words.Given as goal

abbrev pub invariant-loop-each : goal.invariant-loop-each
invariant-loop-each l = l.count ≡ capped (sum_by (λ p. length p.words) (map piece_view (take l.each-index l.pieces)))
