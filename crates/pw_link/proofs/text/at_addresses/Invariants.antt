use Rattle.std.proofs.Common.{◌≡◌, ◌+◌, ◌*◌, length, map, take}
use Rattle.std.specs.List.{sum_by}
use Rattle.pw_value.specs.Limits.{text_start}
use Rattle.pw_link.specs.Layout.{placed_from}
use Rattle.pw_link.specs.Views.{piece_view, placed_view}
use Rattle.pw_link.proofs.text.at_addresses.Given as goal

abbrev pub invariant-loop-piece : goal.invariant-loop-piece
invariant-loop-piece l = (l.address ≡ text_start + 4 * sum_by (λ p. length p.words) (map piece_view (take l.piece-index l.pieces)))
    × (map placed_view l.text.items ≡ placed_from text_start (map piece_view (take l.piece-index l.pieces)))
