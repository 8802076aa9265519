use Rattle.std.proofs.Common.{◌≡◌, ◌+◌, ◌*◌, ℕ, ◌∷◌, [], map, take, length, sym, ap, ◌∙◌, arith}
use Rattle.std.specs.List.{sum_by}
use Rattle.std.proofs.lemmas.List.{map-append}
use Rattle.pw_value.specs.Limits.{text_start}
use Rattle.pw_link.specs.declared.text.Piece.{Piece}
use Rattle.pw_link.specs.Layout.{placed_from}
use Rattle.pw_link.specs.Layout as plain
use Rattle.pw_link.specs.Views.{piece_view, placed_view}
use Rattle.pw_link.proofs.Growing.{sum_and_next, sum_more, map_more, placed_more}
use Rattle.pw_link.proofs.text.at_addresses.Goals as goal

abbrev count : plain.Piece → ℕ
count p = length p.words

pub overflow_cast-address : goal.overflow_cast-address
overflow_cast-address c =
    let bound = sum_and_next count piece_view c.args.pieces.now c.loop-piece.piece-index c.piece-item.result c.loop-piece-test.true in
    let item = ap (λ (p : Piece). length p.words.now) c.piece-item.is in
    omega (arith, bound, item, c.requires)

pub overflow_mul-address : goal.overflow_mul-address
overflow_mul-address c =
    let bound = sum_and_next count piece_view c.args.pieces.now c.loop-piece.piece-index c.piece-item.result c.loop-piece-test.true in
    let item = ap (λ (p : Piece). length p.words.now) c.piece-item.is in
    omega (arith, bound, item, c.requires)

pub overflow_add-address : goal.overflow_add-address
overflow_add-address c =
    let bound = sum_and_next count piece_view c.args.pieces.now c.loop-piece.piece-index c.piece-item.result c.loop-piece-test.true in
    let item = ap (λ (p : Piece). length p.words.now) c.piece-item.is in
    omega (arith, bound, item, c.requires, c.loop-piece.invariant.0)

further : (a s n t address : ℕ) → address ≡ a + 4 * s → t ≡ s + n → address + 4 * n ≡ a + 4 * t
further a s n t address e f = omega (arith, e, f)

pub loop-piece-preserved : goal.loop-piece-preserved
loop-piece-preserved c =
    let more = map_more piece_view c.args.pieces.now c.loop-piece.piece-index c.piece-item.result c.loop-piece-test.true c.piece-item.is in
    let sum = sum_more count piece_view c.args.pieces.now c.loop-piece.piece-index c.piece-item.result c.loop-piece-test.true c.piece-item.is in
    let ps = map piece_view (take c.loop-piece.piece-index c.args.pieces.now) in (
      further text_start (sum_by count ps) (length c.piece-item.result.words.now) _ c.loop-piece.address c.loop-piece.invariant.0 sum,
      ap (map placed_view) c.in_ok-push.ensures.items
          ∙ map-append placed_view c.loop-piece.text.items (record { address = c.loop-piece.address; piece = c.piece-item.result } ∷ [])
          ∙ placed_more ps (piece_view c.piece-item.result) (map placed_view c.loop-piece.text.items) text_start c.loop-piece.address c.loop-piece.invariant.1 c.loop-piece.invariant.0
          ∙ ap (placed_from text_start) (sym more),
    )
