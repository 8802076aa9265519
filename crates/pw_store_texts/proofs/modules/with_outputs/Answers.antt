use Rattle.std.proofs.Common.{map, sym, ◌∙◌}
use Rattle.std.specs.Vec.Iter.{into_iter_items}
use Rattle.pw_store_modules.specs.Views.{source}
use Rattle.pw_store_texts.specs.Placing.{with_outputs}
use Rattle.pw_store_sources.specs.Sources.{outcome}
use Rattle.pw_store_texts.proofs.SeenLemmas.{length-behind, none-placed, nothing-in, placed-more}
use Rattle.pw_store_texts.proofs.modules.with_outputs.Goals as goal

pub loop-compiled-preserved : goal.loop-compiled-preserved
loop-compiled-preserved c =
    record {
      placed = placed-more (map source c.loop-compiled.all.items) (map source c.put_module.new.modules.items) (with_outputs (map source c.args.modules.items) (map outcome c.args.outputs.items)) (source c.in_ok-seen_module.field-0) c.in-Some.compiled
          (into_iter_items c.loop-compiled.compiled-iterator) (into_iter_items c.next.new.self) c.loop-compiled.invariant.placed c.in-Some.ensures.steps.0 c.in_ok-seen_module.ensures c.in_ok-put_module.ensures;
      count = length-behind (into_iter_items c.loop-compiled.compiled-iterator) c.in-Some.compiled (into_iter_items c.next.new.self) c.in-Some.ensures.steps.0 c.in-Some.ensures.steps.1 c.loop-compiled.invariant.count;
    }

pub returns : goal.returns
returns c =
    none-placed (map source c.loop-compiled.all.items) (with_outputs (map source c.args.modules.items) (map outcome c.args.outputs.items)) (into_iter_items c.loop-compiled.compiled-iterator) c.loop-compiled.invariant.placed
    (nothing-in (into_iter_items c.loop-compiled.compiled-iterator) (sym c.loop-compiled.invariant.count ∙ c.in-None.ensures.steps.0))
