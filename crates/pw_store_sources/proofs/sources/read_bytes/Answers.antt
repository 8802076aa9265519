use Rattle.std.proofs.Common.{map}
use Rattle.std.specs.Prelude.{string_bytes}
use Rattle.pw_cpp_sources.specs.Sources.{texts_of}
use Rattle.pw_store_sources.specs.Views.{named_text}
use Rattle.pw_store_sources.proofs.BytesLemmas.{bytes_read}
use Rattle.pw_store_sources.proofs.sources.read_bytes.Goals as goal

pub returns-clause-bytes : goal.returns-clause-bytes
returns-clause-bytes g c =
    bytes_read (g.S.Store.told c.args.store.now) _ (map string_bytes c.args.names.now) (map named_text c.in_ok-sources.sources.items) (texts_of c.in_ok-headers.headers.items)
    c.in_ok-bytes_of.field-0 c.in_ok-sources.ensures.same c.in_ok-sources.ensures.read c.in_ok-headers.ensures.read
    (rw (c.deref.ensures.value, c.deref-2.ensures.value) at c.in_ok-bytes_of.ensures)
