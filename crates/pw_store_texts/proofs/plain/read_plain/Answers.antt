use Rattle.std.proofs.Common.{map}
use Rattle.std.specs.Prelude.{string_bytes}
use Rattle.pw_store_modules.specs.Views.{source}
use Rattle.pw_store_texts.proofs.PlainLemmas.{plain_bytes}
use Rattle.pw_store_texts.proofs.plain.read_plain.Goals as goal

pub returns-clause-bytes : goal.returns-clause-bytes
returns-clause-bytes g c =
    plain_bytes (g.S.Store.told c.args.store.now) (map string_bytes c.args.names.now) (map source c.in_ok-modules.modules.items) c.in_ok-bytes.bytes (rw c.deref.ensures.value at c.in_ok-bytes.ensures)
