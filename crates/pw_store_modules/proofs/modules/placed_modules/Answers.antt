use Rattle.std.proofs.Common.{◌+◌, drop, map, arith}
use Rattle.std.specs.Prelude.{string_bytes}
use Rattle.pw_store_modules.specs.Reading.{with_file}
use Rattle.pw_store_modules.proofs.ModuleLemmas.{mapped_rest, folded}
use Rattle.pw_store_modules.proofs.modules.placed_modules.Goals as goal

pub loop-name-preserved : goal.loop-name-preserved
loop-name-preserved c =
    let next = mapped_rest string_bytes c.args.names.now c.loop-name.name-index c.name-item.result (omega arith) c.name-item.is in
    rw c.in_ok-place_module.ensures (folded with_file (map string_bytes c.loop-name.files.items) (map string_bytes c.args.names.now) (drop (c.loop-name.name-index + 1) (map string_bytes c.args.names.now)) c.loop-name.name-index (string_bytes c.name-item.result) _ c.loop-name.invariant next)
