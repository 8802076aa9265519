use Rattle.std.proofs.Common.{◌≡◌, ◌++◌, map, take}
use Rattle.pw_link.specs.Layout.{piece_of}
use Rattle.pw_link.specs.Views.{piece_view}
use Rattle.pw_link.proofs.text.add_functions.Given as goal

abbrev pub invariant-loop-each : goal.invariant-loop-each
invariant-loop-each l = map piece_view l.pieces.items ≡ map piece_view l.fn.pieces.items ++ map piece_of (take l.each-index l.functions)
