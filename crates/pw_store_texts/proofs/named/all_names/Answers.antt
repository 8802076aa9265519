use Rattle.std.proofs.Common.{map}
use Rattle.std.specs.Prelude.{string_bytes}
use Rattle.pw_store_texts.proofs.NamedLemmas.{names_told}
use Rattle.pw_store_texts.proofs.named.all_names.Goals as goal

pub returns-clause-names : goal.returns-clause-names
returns-clause-names g c =
    names_told (g.S.Store.told c.args.store.now) (map string_bytes c.in_ok-files.files.items) (map string_bytes c.in_ok-names_of.field-0.items) c.in_ok-named.named.items c.in_ok-files.ensures.names
    (rw c.deref.ensures.value at c.in_ok-named.ensures) (rw c.deref-2.ensures.value at c.in_ok-names_of.ensures.names)
