use Rattle.std.proofs.Common.{ℕ, ◌++◌, ◌∙◌, length, map, refl, sym, ap}
use Rattle.std.proofs.lemmas.Option.{slice_get_read}
use Rattle.pw_flow.specs.declared.flow.Block.{Block}
use Rattle.pw_flow.specs.Uses.{successors}
use Rattle.pw_opt_rows.proofs.Ways.{edges_more, edges_all}
use Rattle.pw_opt_rows.proofs.edges.edges_of.Goals as goal

pub loop-place-preserved : goal.loop-place-preserved
loop-place-preserved c =
    let blocks = c.args.blocks.now in
    let place = c.loop-place.place in
    let block = c.index-blocks-place.result in
    edges_more blocks place block c.loop-place.edges.items c.add_edges.new.edges.items
    (slice_get_read blocks (length blocks) place block refl c.loop-place-test.true c.index-blocks-place.is)
    (c.in_ok-add_edges.ensures ∙ ap (λ (b : Block). c.loop-place.edges.items ++ map (λ (n : ℕ). (place, n)) (successors b.end)) (sym c.index-blocks-place.is))
    c.loop-place.invariant

pub returns : goal.returns
returns c = edges_all c.args.blocks.now c.loop-place.place c.loop-place.edges.items c.loop-place-test.false c.loop-place.invariant
