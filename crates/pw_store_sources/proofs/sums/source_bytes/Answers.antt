use Rattle.std.proofs.Common.{◌≡◌, ◌+◌, drop, length, map, arith}
use Rattle.pw_store_modules.proofs.ModuleLemmas.{mapped_rest}
use Rattle.pw_store_sources.specs.Bytes.{bytes_of}
use Rattle.pw_store_sources.specs.Views.{named_text}
use Rattle.pw_store_sources.proofs.BytesLemmas.{bytes_end, bytes_turn}
use Rattle.pw_store_sources.proofs.ComeLemmas.{none-left}
use Rattle.pw_store_sources.proofs.sums.source_bytes.Goals as goal

pub loop-source-preserved : goal.loop-source-preserved
loop-source-preserved c =
    let next = mapped_rest named_text c.args.sources.now c.loop-source.source-index c.source-item.result (omega arith) c.source-item.is in
    let size : c.len-more.result ≡ length c.source-item.result.text.items = omega arith in
    bytes_turn (named_text c.source-item.result) (drop c.loop-source.source-index (map named_text c.args.sources.now)) (drop (c.loop-source.source-index + 1) (map named_text c.args.sources.now)) c.loop-source.bytes _ c.in_ok-bytes.bytes _
    c.loop-source.invariant next size c.in_ok-bytes.ensures

pub returns : goal.returns
returns c =
    bytes_end (drop c.loop-source.source-index (map named_text c.args.sources.now)) c.loop-source.bytes _ (none-left named_text c.args.sources.now c.loop-source.source-index c.loop-source-test.false) c.loop-source.invariant
