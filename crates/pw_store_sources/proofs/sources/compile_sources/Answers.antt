use Rattle.std.proofs.Common.{map}
use Rattle.std.specs.Prelude.{string_bytes}
use Rattle.pw_cpp_sources.specs.Sources.{texts_of}
use Rattle.pw_store_sources.specs.Sources.{outcome}
use Rattle.pw_store_sources.specs.Views.{named_text}
use Rattle.pw_store_sources.proofs.BytesLemmas.{bytes_read}
use Rattle.pw_store_sources.proofs.ComeLemmas.{come-among}
use Rattle.pw_store_sources.proofs.sources.compile_sources.Goals as goal

pub returns-clause-comes : goal.returns-clause-comes
returns-clause-comes g c =
    come-among (g.S.Store.told c.args.store.now) _ (map string_bytes c.args.names.now) (map named_text c.in_ok-sources.sources.items) (texts_of c.in_ok-headers.headers.items)
    (map outcome c.in_ok-compile_texts.field-0.outputs.items) c.in_ok-sources.ensures.same c.in_ok-sources.ensures.read c.in_ok-headers.ensures.read
    (rw c.deref.ensures.value at c.in_ok-compile_texts.ensures.comes)

pub returns-clause-bytes : goal.returns-clause-bytes
returns-clause-bytes g c =
    bytes_read (g.S.Store.told c.args.store.now) _ (map string_bytes c.args.names.now) (map named_text c.in_ok-sources.sources.items) (texts_of c.in_ok-headers.headers.items)
    c.in_ok-compile_texts.field-0.bytes c.in_ok-sources.ensures.same c.in_ok-sources.ensures.read c.in_ok-headers.ensures.read
    (rw c.deref.ensures.value at c.in_ok-compile_texts.ensures.bytes)
