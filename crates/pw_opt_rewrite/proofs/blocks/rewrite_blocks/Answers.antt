use Rattle.std.proofs.Common.{◌≡◌, ◌∙◌, ◌<◌, ◌+◌, List, [], length, get_or, take, set, refl, sym, ap, subst, arith}
use Rattle.std.proofs.lemmas.List.{get_or_default, get_or-map, length-map, take_all}
use Rattle.std.proofs.lemmas.Option.{slice_get_read}
use Rattle.pw_flow.specs.declared.flow.Block.{Block}
use Rattle.pw_opt_rules.specs.declared.flat.Flat.{Flat}
use Rattle.pw_opt_rules.specs.Rewriting.{rewritten_block, rewritten_blocks}
use Rattle.pw_opt_rows.specs.Seeing.{rested}
use Rattle.pw_opt_rows.specs.Outflows.{AreAbout, all_rested}
use Rattle.pw_opt_rewrite.proofs.Steps.{blocks_now, rest_now, take_set}
use Rattle.pw_opt_rewrite.proofs.blocks.rewrite_blocks.Goals as goal

pub rewrite_at-requires-clause-about : goal.rewrite_at-requires-clause-about
rewrite_at-requires-clause-about g c =
    let place = c.loop-place.place in
    let x = c.index-blocks-place.result in
    let b = get_or c.loop-place.blocks place x in
    let is : b ≡ get_or c.args.blocks.now place b = c.loop-place.invariant.others place x (omega arith) ∙ get_or_default c.args.blocks.now place x b c.loop-place-test.true in
    subst (AreAbout (g.R.Rewriting.is_about c.args.rewriting.now)) (sym is) (c.requires.about place b c.loop-place-test.true)

pub rewrite_at-requires-clause-home : goal.rewrite_at-requires-clause-home
rewrite_at-requires-clause-home g c =
    let bs = c.args.blocks.now in
    let place = c.loop-place.place in
    let x = c.index-blocks-place.result in
    let b = get_or c.loop-place.blocks place x in
    let is : b ≡ get_or bs place b = c.loop-place.invariant.others place x (omega arith) ∙ get_or_default bs place x b c.loop-place-test.true in
    c.requires.home place b (slice_get_read bs (length bs) place b refl c.loop-place-test.true is)

pub loop-place-preserved : goal.loop-place-preserved
loop-place-preserved g c =
    let w = g.R.Rewriting.rewriting c.args.rewriting.now in
    let ps = c.args.places.now in
    let rows = c.args.fronts.now in
    let now = c.loop-place.fronts in
    let bs = c.args.blocks.now in
    let new = c.loop-place.blocks in
    let place = c.loop-place.place in
    let row = get_or now place c.index-fronts-place.result in
    let x = c.index-blocks-place.result in
    let b = get_or new place x in
    let made = c.rewrite_at.new.block in
    let inv = c.loop-place.invariant in
    let lt = c.loop-place-test.true in
    let is : b ≡ get_or bs place b = inv.others place x (omega arith) ∙ get_or_default bs place x b lt in
    let there : place < length new = let long = c.loop-place.auto.blocks in omega (arith, lt, long) in
    let low : place < length rows = let count = c.requires.count in omega (arith, lt, count) in
    let here : place < length now = let long = c.loop-place.auto.fronts in omega (arith, low, long) in
    let is_row : row ≡ get_or rows place ([], []) = get_or_default now place c.index-fronts-place.result ([], []) here ∙ inv.rest place (omega arith) in
    let rest : List Flat × List Flat → List Flat = λ (x : List Flat × List Flat). rested ps.places.items x.0 in
    let long : length (all_rested ps rows) ≡ length rows = length-map rows rest in
    let is_rest : rested ps.places.items row.0 ≡ get_or (all_rested ps rows) place [] = ap rest is_row ∙ sym (get_or-map rest rows place ([], []) [] low) in
    record {
      blocks = blocks_now w (all_rested ps rows) bs place (rested ps.places.items row.0) b made (take place new) (take (place + 1) (set new place made)) lt (omega (arith, low, long)) is_rest is c.in_ok-rewrite_at.ensures inv.blocks
          (take_set new place made there);
      rest = rest_now ([], []) rows now place c.rewrite_at.new.row inv.rest;
      others = λ j d. rest_now d bs new place made (λ k. inv.others k d) j;
    }

pub returns : goal.returns
returns g c =
    let w = g.R.Rewriting.rewriting c.args.rewriting.now in
    let place = c.loop-place.place in
    let done = c.loop-place-test.false in
    sym (take_all place c.loop-place.blocks (let long = c.loop-place.auto.blocks in omega (arith, done, long))) ∙ c.loop-place.invariant.blocks
    ∙ ap (λ (bs : List Block). rewritten_blocks w (all_rested c.args.places.now c.args.fronts.now) bs) (take_all place c.args.blocks.now done)
