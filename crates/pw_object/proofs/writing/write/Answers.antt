use Rattle.std.proofs.Common.{ℕ, List, length, sym, subst, ◌∙◌}
use Rattle.pw_fields.specs.Fields.{FitsU32}
use Rattle.pw_fields.specs.FieldNames.{IsTableOf}
use Rattle.pw_object.specs.Object.{IsNamedBy, names_of}
use Rattle.pw_object.proofs.WritingLemmas.{named_by, made}
use Rattle.pw_object.proofs.writing.write.Goals as goal

pub write_payload-requires-clause-stand : goal.write_payload-requires-clause-stand
write_payload-requires-clause-stand c =
    let p = c.args.object.now in
    let table = subst (IsTableOf c.in_ok-names.names.items) c.in_ok-used.ensures c.in_ok-names.ensures.table in
    subst (λ (names : List (List ℕ)). IsNamedBy names p) (sym c.deref.ensures.value) (named_by c.in_ok-names.names.items p table)

pub returns : goal.returns
returns c =
    let o = c.args.object.now in
    let table = subst (IsTableOf c.in_ok-names.names.items) c.in_ok-used.ensures c.in_ok-names.ensures.table in
    made c.deref.result.now o c.deref-2.result.now c.seal_payload.result c.requires c.in_ok-payload.ensures.fits
    (subst (λ (names : List (List ℕ)). FitsU32 (length names)) (sym c.deref.ensures.value) c.in_ok-names.ensures.fits)
    (subst (λ (names : List (List ℕ)). IsTableOf names (names_of o)) (sym c.deref.ensures.value) table)
    (c.deref-2.ensures.value ∙ c.in_ok-payload.ensures.written) c.seal_payload.ensures.room c.seal_payload.ensures.sealed
