use Rattle.std.proofs.Common.{ℕ, List, length, map, sym, subst}
use Rattle.pw_fields.specs.Fields.{FitsU32}
use Rattle.pw_fields.specs.FieldNames.{IsTableOf}
use Rattle.pw_db_file.specs.Spelling.{names_of}
use Rattle.pw_db_file.proofs.WritingLemmas.{all_named, is_payload}
use Rattle.pw_db_file.proofs.writing.write_version.Goals as goal

pub write_contents-requires-clause-stand : goal.write_contents-requires-clause-stand
write_contents-requires-clause-stand c =
    let table = subst (IsTableOf c.in_ok-names.names.items) c.in_ok-used.ensures c.in_ok-names.ensures.table in
    all_named (λ f. f.now) c.deref.result.now c.args.functions.now (subst (λ (names : List (List ℕ)). IsTableOf names (names_of (map (λ f. f.now) c.args.functions.now))) (sym c.deref.ensures.value) table)

pub returns : goal.returns
returns c =
    let fs = map (λ f. f.now) c.args.functions.now in
    let table = subst (IsTableOf c.in_ok-names.names.items) c.in_ok-used.ensures c.in_ok-names.ensures.table in
    is_payload c.args.version c.deref.result.now fs c.write_contents.result c.requires
    (subst (λ (names : List (List ℕ)). FitsU32 (length names)) (sym c.deref.ensures.value) c.in_ok-names.ensures.fits)
    (subst (λ (names : List (List ℕ)). IsTableOf names (names_of fs)) (sym c.deref.ensures.value) table)
    c.write_contents.ensures.fits c.write_contents.ensures.written
