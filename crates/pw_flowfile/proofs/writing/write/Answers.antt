use Rattle.std.proofs.Common.{◌≡◌, ◌++◌, ℕ, List, length, map, ap, subst, sym, ◌∙◌}
use Rattle.std.specs.Prelude.{Contains}
use Rattle.std.specs.List.{AllByRecursion}
use Rattle.pw_fields.specs.Fields.{FitsU32}
use Rattle.pw_fields.specs.FieldNames.{IsTableOf}
use Rattle.pw_flowfile.specs.FlowFile.{names_of, spelling}
use Rattle.pw_flowfile.proofs.WritingLemmas.{all_stand, written}
use Rattle.pw_flowfile.proofs.writing.write.Goals as goal

pub push_module-requires-clause-stand : goal.push_module-requires-clause-stand
push_module-requires-clause-stand c =
    subst (λ (names : List (List ℕ)). AllByRecursion (Contains names) (names_of c.args.flow.now)) (sym c.as_slice-table.ensures.value)
    (all_stand c.in_ok-names.names.items _ c.args.flow.now c.in_ok-names.ensures.table c.in_ok-used.ensures)

pub returns : goal.returns
returns c =
    let m = c.args.flow.now in
    let names = c.as_slice-table.result.now in
    let payload = c.as_slice-payload.result.now in
    let text : List ℕ = spelling (record { names = names; value = m }) in
    let same : payload ≡ text = c.as_slice-payload.ensures.value ∙ c.in_ok-push_module.ensures ∙ ap (λ (w : List ℕ). w ++ text) c.new-out.ensures.items in
    let used : List (List ℕ) = map (λ name. name.now) c.in_ok-used.used.items in
    let table : IsTableOf names used = subst (λ (ns : List (List ℕ)). IsTableOf ns used) (sym c.as_slice-table.ensures.value) c.in_ok-names.ensures.table in
    let count : FitsU32 (length names) = subst (λ (ns : List (List ℕ)). FitsU32 (length ns)) (sym c.as_slice-table.ensures.value) c.in_ok-names.ensures.fits in
    written names used m payload c.seal_payload.result c.requires table c.in_ok-used.ensures count same c.seal_payload.ensures.room c.seal_payload.ensures.sealed
