use Rattle.std.proofs.Common.{map, sym, ◌∙◌, arith}
use Rattle.std.proofs.lemmas.List.{length-map}
use Rattle.pw_store_modules.specs.Views.{source}
use Rattle.pw_store_modules.proofs.ModuleLemmas.{mapped_rest}
use Rattle.pw_store_texts.proofs.PlaceLemmas.{place_at, place_before, place_behind}
use Rattle.pw_store_texts.proofs.place.place_of.Goals as goal

pub loop-i-preserved : goal.loop-i-preserved
loop-i-preserved c =
    let next = mapped_rest source c.args.modules.now c.loop-i.i c.index-modules-i.result (omega arith) c.index-modules-i.is in
    place_behind (map source c.args.modules.now) c.args.name.now c.loop-i.i (source c.index-modules-i.result) c.loop-i.invariant next (sym c.cmp.ensures ∙ c.in-Greater.is)

pub returns-in-Less : goal.returns-in-Less
returns-in-Less c =
    let next = mapped_rest source c.args.modules.now c.loop-i.i c.index-modules-i.result (omega arith) c.index-modules-i.is in
    let count = length-map c.args.modules.now source in
    (omega (arith, count), place_before (map source c.args.modules.now) c.args.name.now c.loop-i.i (source c.index-modules-i.result) _ c.loop-i.invariant next (sym c.cmp.ensures ∙ c.in-Less.is))

pub returns-in-Equal : goal.returns-in-Equal
returns-in-Equal c =
    let next = mapped_rest source c.args.modules.now c.loop-i.i c.index-modules-i.result (omega arith) c.index-modules-i.is in
    let count = length-map c.args.modules.now source in
    (omega (arith, count), place_at (map source c.args.modules.now) c.args.name.now c.loop-i.i (source c.index-modules-i.result) _ c.loop-i.invariant next (sym c.cmp.ensures ∙ c.in-Equal.is))
