use Rattle.std.proofs.Common.{◌+◌, drop, map, arith, ◌∙◌}
use Rattle.std.specs.Prelude.{string_bytes}
use Rattle.pw_cpp_sources.specs.Sources.{texts_of}
use Rattle.pw_store_modules.proofs.ModuleLemmas.{mapped_rest}
use Rattle.pw_store_modules.proofs.ReadingLemmas.{keeps_on}
use Rattle.pw_store_sources.specs.Headers.{header_in}
use Rattle.pw_store_sources.proofs.Picking.{picked-turn}
use Rattle.pw_store_sources.proofs.headers.headers_among.Goals as goal

pub loop-name-preserved : goal.loop-name-preserved
loop-name-preserved g c =
    let next = mapped_rest string_bytes c.args.names.now c.loop-name.name-index c.name-item.result (omega arith) c.name-item.is in
    record {
      read = picked-turn header_in (g.S.Store.told c.args.store.now) (g.S.Store.told c.loop-name.store) (string_bytes c.name-item.result) (map string_bytes c.args.names.now)
          (drop (c.loop-name.name-index + 1) (map string_bytes c.args.names.now)) (drop c.loop-name.name-index (map string_bytes c.args.names.now)) (texts_of c.loop-name.all.items) (texts_of c.add_header.new.headers.items)
          c.loop-name.invariant.read c.loop-name.invariant.same (rw c.as_str.ensures.value at c.in_ok-add_header.ensures.read) next;
      same = keeps_on (g.S.Store.told c.args.store.now) (g.S.Store.told c.loop-name.store) _ c.loop-name.invariant.same c.add_header.ensures.same;
      count = c.in_ok-add_header.ensures.cause ∙ c.loop-name.invariant.count;
    }
