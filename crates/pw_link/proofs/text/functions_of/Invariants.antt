use Rattle.std.proofs.Common.{◌≡◌, map, take}
use Rattle.pw_link.specs.Layout.{function_pieces}
use Rattle.pw_link.specs.Views.{piece_view}
use Rattle.pw_link.proofs.text.functions_of.Given as goal

abbrev pub invariant-loop-object : goal.invariant-loop-object
invariant-loop-object l = map piece_view l.pieces.items ≡ function_pieces (map (λ o. o.now) (take l.object-index l.order))
