use Rattle.std.proofs.Common.{map}
use Rattle.std.specs.Prelude.{string_bytes}
use Rattle.pw_store_texts.proofs.PlainLemmas.{modules_bytes}
use Rattle.pw_store_texts.proofs.bytes.plain_bytes.Goals as goal

pub returns-clause-bytes : goal.returns-clause-bytes
returns-clause-bytes g c =
    modules_bytes (g.S.Store.told c.args.store.now) (map string_bytes c.args.names.now) (map string_bytes c.in_ok-files.files.items) c.in_ok-plain.plain c.in_ok-files.ensures.sources
    (rw c.deref.ensures.value at c.in_ok-plain.ensures.read) c.in_ok-plain.ensures.bytes
