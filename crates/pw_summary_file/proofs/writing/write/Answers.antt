use Rattle.std.proofs.Common.{ℕ, List, length, sym, subst, ◌∙◌}
use Rattle.pw_fields.specs.Fields.{FitsU32}
use Rattle.pw_fields.specs.FieldNames.{IsTableOf}
use Rattle.pw_summary_file.specs.Spelling.{IsNamedBy, names_of}
use Rattle.pw_summary_file.proofs.WritingLemmas.{named_by, is_file}
use Rattle.pw_summary_file.proofs.writing.write.Goals as goal

pub write_payload-requires-clause-stand : goal.write_payload-requires-clause-stand
write_payload-requires-clause-stand c =
    let s = c.args.summary.now in
    let table = subst (IsTableOf c.in_ok-names.names.items) c.in_ok-used.ensures c.in_ok-names.ensures.table in
    subst (λ (names : List (List ℕ)). IsNamedBy names s) (sym c.deref.ensures.value) (named_by c.in_ok-names.names.items s table)

pub returns : goal.returns
returns c =
    let s = c.args.summary.now in
    let table = subst (IsTableOf c.in_ok-names.names.items) c.in_ok-used.ensures c.in_ok-names.ensures.table in
    is_file c.deref.result.now s c.deref-2.result.now c.seal_payload.result c.requires c.in_ok-payload.ensures.fits
    (subst (λ (names : List (List ℕ)). FitsU32 (length names)) (sym c.deref.ensures.value) c.in_ok-names.ensures.fits)
    (subst (λ (names : List (List ℕ)). IsTableOf names (names_of s)) (sym c.deref.ensures.value) table)
    (c.deref-2.ensures.value ∙ c.in_ok-payload.ensures.written) c.seal_payload.ensures.room c.seal_payload.ensures.sealed
