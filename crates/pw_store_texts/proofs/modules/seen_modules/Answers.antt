use Rattle.std.proofs.Common.{map}
use Rattle.std.specs.Prelude.{string_bytes}
use Rattle.pw_store_texts.proofs.PlainLemmas.{named_seen}
use Rattle.pw_store_texts.proofs.modules.seen_modules.Goals as goal

pub returns-clause-seen : goal.returns-clause-seen
returns-clause-seen g c =
    named_seen (g.S.Store.told c.args.store.now) _ (map string_bytes c.in_ok-names.names.items) c.seen_among.result c.in_ok-names.ensures.names c.in_ok-names.ensures.same (rw c.deref.ensures.value at c.seen_among.ensures.seen)
