use Rattle.std.proofs.Common.{◌≡◌, ◌++◌, map, take}
use Rattle.pw_link.specs.Layout.{routine_pieces}
use Rattle.pw_link.specs.Views.{piece_view}
use Rattle.pw_link.proofs.text.add_routines.Given as goal

abbrev pub invariant-loop-k : goal.invariant-loop-k
invariant-loop-k l = map piece_view l.pieces.items ≡ map piece_view l.fn.pieces.items ++ take l.k routine_pieces
