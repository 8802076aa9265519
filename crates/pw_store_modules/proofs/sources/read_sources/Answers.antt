use Rattle.std.proofs.Common.{map, arith, ◌∙◌}
use Rattle.std.specs.Prelude.{string_bytes}
use Rattle.pw_store_modules.specs.Views.{source}
use Rattle.pw_store_modules.proofs.ModuleLemmas.{mapped_rest}
use Rattle.pw_store_modules.proofs.ReadingLemmas.{sources_turn, keeps_on}
use Rattle.pw_store_modules.proofs.sources.read_sources.Goals as goal

pub loop-file-preserved : goal.loop-file-preserved
loop-file-preserved g c =
    let next = mapped_rest string_bytes c.args.files.now c.loop-file.file-index c.file-item.result (omega arith) c.file-item.is in
    record {
      read = sources_turn (g.S.Store.told c.args.store.now) (g.S.Store.told c.loop-file.store) (string_bytes c.file-item.result) _ _ _ (map source c.loop-file.modules.items) _
          c.loop-file.invariant.read c.loop-file.invariant.same (rw c.as_str.ensures.value at c.in_ok-add_source.ensures.read) next;
      same = keeps_on (g.S.Store.told c.args.store.now) (g.S.Store.told c.loop-file.store) _ c.loop-file.invariant.same c.add_source.ensures.same;
      count = c.in_ok-add_source.ensures.cause ∙ c.loop-file.invariant.count;
    }
