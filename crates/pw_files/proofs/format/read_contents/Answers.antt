use Rattle.std.proofs.Common.{[], List, ℕ, sym, subst, arith}
use Rattle.pw_fields.specs.FieldNames.{IsRisingFrom}
use Rattle.pw_fields.proofs.NameLaws.{names_spell}
use Rattle.pw_files.proofs.format.read_contents.Goals as goal

pub read_fields-requires-clause-rising : goal.read_fields-requires-clause-rising
read_fields-requires-clause-rising g c =
    subst (λ (names : List (List ℕ)). IsRisingFrom [] names) (sym c.deref.ensures.value)
    (names_spell.takes c.args.bytes.now c.in_ok-names.names.items c.in_ok-names.behind.now (λ i. omega (arith, c.type_inv.bytes i)) c.in_ok-names.ensures.found).1.rising
