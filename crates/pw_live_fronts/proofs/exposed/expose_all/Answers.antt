use Rattle.std.proofs.Common.{◌≡◌, ◌+◌, ◌≤◌, ◌∙◌, ℕ, List, ap, arith, drop, length, refl, rules, subst, sym, vec_len}
use Rattle.std.specs.Prelude.{Some, slice_get, slice_index}
use Rattle.std.proofs.lemmas.List.{take_at}
use Rattle.std.proofs.lemmas.Option.{slice_get_read}
use Rattle.pw_flow.specs.Outline.{Stretch}
use Rattle.pw_live_fronts.specs.Blocks.{IsStretch}
use Rattle.pw_live_fronts.specs.Exposing.{IsExposed}
use Rattle.pw_live_fronts.proofs.Rows.{stretch_at}
use Rattle.pw_live_fronts.proofs.Readings.{block_more}
use Rattle.pw_live_fronts.proofs.exposed.expose_all.Goals as goal

pub expose_block-requires-clause-block : goal.expose_block-requires-clause-block
expose_block-requires-clause-block c =
    let f = c.args.f.now in
    let place = c.loop-place.place in
    let s = c.index-blocks-place.result in
    let nodes : length c.blocks-blocks.result.now ≡ length f.blocks = ap (λ (bs : List Stretch). length bs) c.blocks-blocks.ensures in
    let there : slice_get f.blocks place ≡ Some s =
    subst (λ (bs : List Stretch). slice_get bs place ≡ Some s) c.blocks-blocks.ensures (slice_get_read c.blocks-blocks.result.now (length c.blocks-blocks.result.now) place s refl c.loop-place-test.true c.index-blocks-place.is) in
    subst (λ (n : ℕ). IsStretch (vec_len c.loop-place.exposed.numbers) n s) (sym nodes) (subst (λ (n : ℕ). IsStretch n (length f.blocks) s) (sym c.loop-place.invariant.count) (stretch_at f c.requires place s there))

pub loop-place-preserved : goal.loop-place-preserved
loop-place-preserved c =
    let f = c.args.f.now in
    let place = c.loop-place.place in
    let s = c.index-blocks-place.result in
    let there : slice_get f.blocks place ≡ Some s =
    subst (λ (bs : List Stretch). slice_get bs place ≡ Some s) c.blocks-blocks.ensures (slice_get_read c.blocks-blocks.result.now (length c.blocks-blocks.result.now) place s refl c.loop-place-test.true c.index-blocks-place.is) in
    let inv = c.loop-place.invariant in
    let new = c.expose_block.new.marks in
    let same : length c.deref_mut.result.now ≡ length c.loop-place.marks.items = ap (λ (xs : List ℕ). length xs) c.deref_mut.ensures.value in
    let size : length new ≡ c.loop-place.marks.len = omega (arith, c.expose_block.ensures.length, same, c.loop-place.marks.ok.0) in
    record {
      count = c.expose_block.ensures.count ∙ inv.count;
      long = first_of (search rules, omega arith);
      low = λ t. subst (λ (xs : List ℕ). slice_index xs t ≤ place + 1) (sym (take_at new (drop (length new) c.loop-place.marks.items) c.loop-place.marks.len size)) (c.expose_block.ensures.low t);
      there = block_more f.blocks place s (IsExposed c.loop-place.exposed) (IsExposed c.expose_block.new.exposed) there c.expose_block.ensures.kept c.in_ok-expose_block.ensures.there inv.there;
    }
