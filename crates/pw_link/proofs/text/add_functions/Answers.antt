use Rattle.std.proofs.Common.{map, ap, ◌∙◌}
use Rattle.std.proofs.lemmas.List.{map-append}
use Rattle.pw_link.specs.Views.{piece_view}
use Rattle.pw_link.proofs.Growing.{pieces_more}
use Rattle.pw_link.proofs.text.add_functions.Goals as goal

pub loop-each-preserved : goal.loop-each-preserved
loop-each-preserved c =
    ap (map piece_view) c.in_ok-push.ensures.items
    ∙ map-append piece_view c.loop-each.pieces.items _
    ∙ pieces_more (map piece_view c.args.pieces.now.items) (map piece_view c.loop-each.pieces.items) c.args.functions.now c.loop-each.each-index c.each-item.result c.as_slice.result.now c.as_slice-in-loop-each.result.now
    c.loop-each.invariant c.loop-each-test.true c.each-item.is c.as_slice.ensures c.as_slice-in-loop-each.ensures
