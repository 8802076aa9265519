use Rattle.std.proofs.Common.{◌≡◌, ◌+◌, drop, length, map, arith}
use Rattle.pw_store_modules.proofs.ModuleLemmas.{mapped_rest}
use Rattle.pw_store_sources.specs.Bytes.{bytes_of}
use Rattle.pw_cpp_sources.specs.Sources.{texts_of}
use Rattle.pw_store_sources.proofs.BytesLemmas.{bytes_end, bytes_turn, header_text}
use Rattle.pw_store_sources.proofs.ComeLemmas.{none-left}
use Rattle.pw_store_sources.proofs.sums.header_bytes.Goals as goal

pub loop-header-preserved : goal.loop-header-preserved
loop-header-preserved c =
    let next = mapped_rest header_text c.args.headers.now c.loop-header.header-index c.header-item.result (omega arith) c.header-item.is in
    let size : c.len-more.result ≡ length c.header-item.result.1.items = omega arith in
    bytes_turn (header_text c.header-item.result) (drop c.loop-header.header-index (texts_of c.args.headers.now)) (drop (c.loop-header.header-index + 1) (texts_of c.args.headers.now)) c.loop-header.bytes _ c.in_ok-bytes.bytes _
    c.loop-header.invariant next size c.in_ok-bytes.ensures

pub returns : goal.returns
returns c =
    bytes_end (drop c.loop-header.header-index (texts_of c.args.headers.now)) c.loop-header.bytes _ (none-left header_text c.args.headers.now c.loop-header.header-index c.loop-header-test.false) c.loop-header.invariant
