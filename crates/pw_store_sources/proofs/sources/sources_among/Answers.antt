use Rattle.std.proofs.Common.{◌+◌, drop, map, arith, ◌∙◌}
use Rattle.std.specs.Prelude.{string_bytes}
use Rattle.pw_store_sources.specs.Views.{named_text}
use Rattle.pw_store_modules.proofs.ModuleLemmas.{mapped_rest}
use Rattle.pw_store_modules.proofs.ReadingLemmas.{keeps_on}
use Rattle.pw_store_sources.specs.Sources.{source_in}
use Rattle.pw_store_sources.proofs.Picking.{picked-turn}
use Rattle.pw_store_sources.proofs.sources.sources_among.Goals as goal

pub loop-name-preserved : goal.loop-name-preserved
loop-name-preserved g c =
    let next = mapped_rest string_bytes c.args.names.now c.loop-name.name-index c.name-item.result (omega arith) c.name-item.is in
    record {
      read = picked-turn source_in (g.S.Store.told c.args.store.now) (g.S.Store.told c.loop-name.store) (string_bytes c.name-item.result) (map string_bytes c.args.names.now)
          (drop (c.loop-name.name-index + 1) (map string_bytes c.args.names.now)) (drop c.loop-name.name-index (map string_bytes c.args.names.now)) (map named_text c.loop-name.all.items) (map named_text c.add_source.new.sources.items)
          c.loop-name.invariant.read c.loop-name.invariant.same (rw c.as_str.ensures.value at c.in_ok-add_source.ensures.read) next;
      same = keeps_on (g.S.Store.told c.args.store.now) (g.S.Store.told c.loop-name.store) _ c.loop-name.invariant.same c.add_source.ensures.same;
      count = c.in_ok-add_source.ensures.cause ∙ c.loop-name.invariant.count;
    }
