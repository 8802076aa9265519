use Rattle.std.proofs.Common.{map}
use Rattle.std.specs.Prelude.{string_bytes}
use Rattle.pw_store_texts.proofs.BytesLemmas.{named_bytes}
use Rattle.pw_store_texts.proofs.bytes.text_bytes.Goals as goal

pub returns-clause-bytes : goal.returns-clause-bytes
returns-clause-bytes g c =
    named_bytes (g.S.Store.told c.args.store.now) _ (map string_bytes c.in_ok-names.names.items) c.bytes_among.result c.in_ok-names.ensures.names c.in_ok-names.ensures.same (rw c.deref.ensures.value at c.bytes_among.ensures.bytes)
