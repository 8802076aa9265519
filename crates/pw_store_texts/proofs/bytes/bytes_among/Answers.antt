use Rattle.std.proofs.Common.{map}
use Rattle.std.specs.Prelude.{string_bytes}
use Rattle.pw_store_texts.proofs.BytesLemmas.{all_bytes}
use Rattle.pw_store_texts.proofs.bytes.bytes_among.Goals as goal

pub returns-clause-bytes : goal.returns-clause-bytes
returns-clause-bytes g c =
    all_bytes (g.S.Store.told c.args.store.now) _ (map string_bytes c.args.names.now) c.in_ok-beside.beside c.in_ok-own.own c.in_ok-sum_of.field-0 c.in_ok-beside.ensures.bytes c.in_ok-beside.ensures.same
    c.in_ok-own.ensures.bytes c.in_ok-sum_of.ensures
