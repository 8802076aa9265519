use Rattle.std.proofs.Common.{◌+◌, drop, map, arith}
use Rattle.std.specs.Prelude.{string_bytes}
use Rattle.pw_store_modules.specs.Views.{source}
use Rattle.pw_store_modules.proofs.ModuleLemmas.{mapped_rest}
use Rattle.pw_store_sources.proofs.ComeLemmas.{none-left}
use Rattle.pw_store_texts.proofs.NamedLemmas.{names_end, names_start, names_turn}
use Rattle.pw_store_texts.proofs.named.named_among.Goals as goal

pub loop-file-init : goal.loop-file-init
loop-file-init c = names_start (map string_bytes c.args.files.now) _ c.new-named.ensures.items

pub loop-file-preserved : goal.loop-file-preserved
loop-file-preserved c =
    let next = mapped_rest string_bytes c.args.files.now c.loop-file.file-index c.file-item.result (omega arith) c.file-item.is in
    names_turn (string_bytes c.file-item.result) (drop c.loop-file.file-index (map string_bytes c.args.files.now)) (drop (c.loop-file.file-index + 1) (map string_bytes c.args.files.now))
    (map source c.loop-file.named.items) (map source c.add_name.new.named.items) _ c.loop-file.invariant next (rw c.as_str.ensures.value at c.in_ok-add_name.ensures)

pub returns : goal.returns
returns c =
    names_end (drop c.loop-file.file-index (map string_bytes c.args.files.now)) (map source c.loop-file.named.items) _ c.loop-file.invariant
    (none-left string_bytes c.args.files.now c.loop-file.file-index c.loop-file-test.false)
