use Rattle.std.proofs.Common.{◌+◌, drop, map, sym, arith}
use Rattle.pw_store_modules.specs.Views.{source}
use Rattle.pw_store_modules.proofs.ModuleLemmas.{mapped_rest}
use Rattle.pw_store_sources.proofs.ComeLemmas.{none-left}
use Rattle.pw_store_texts.specs.Bytes.{module_bytes}
use Rattle.pw_store_texts.proofs.BytesLemmas.{modules_end, modules_turn, plus_none}
use Rattle.pw_store_texts.proofs.bytes.module_bytes.Goals as goal

pub loop-one-init : goal.loop-one-init
loop-one-init c = λ files e. sym (plus_none (module_bytes files (map source c.args.modules.now)))

pub loop-one-preserved : goal.loop-one-preserved
loop-one-preserved c = λ files e.
    let next = mapped_rest source c.args.modules.now c.loop-one.one-index c.one-item.result (omega arith) c.one-item.is in
    modules_turn files (source c.one-item.result) (drop c.loop-one.one-index (map source c.args.modules.now)) (drop (c.loop-one.one-index + 1) (map source c.args.modules.now)) c.loop-one.bytes c.in_ok-more.more c.in_ok-bytes.bytes
    (module_bytes files (map source c.args.modules.now)) (c.loop-one.invariant files e) next (c.in_ok-more.ensures files e) c.in_ok-bytes.ensures

pub returns : goal.returns
returns c = λ files e.
    modules_end files (drop c.loop-one.one-index (map source c.args.modules.now)) c.loop-one.bytes _ (none-left source c.args.modules.now c.loop-one.one-index c.loop-one-test.false) (c.loop-one.invariant files e)
