use Rattle.std.proofs.Common.{List, ℕ, Bor, map, sym, subst, ◌∙◌, ap}
use Rattle.pw_value.specs.declared.name.Name.{Name}
use Rattle.pw_db.specs.declared.database.Directives.{Directives}
use Rattle.pw_db.specs.Database.{IsDatabase, newest}
use Rattle.pw_db_file.specs.Spelling.{IsPayload}
use Rattle.pw_db_file.proofs.WritingLemmas.{is_file, newest_lawful}
use Rattle.pw_db_file.proofs.writing.write_functions.Goals as goal

pub write_payload-requires : goal.write_payload-requires
write_payload-requires c =
    let same = ap (λ (rs : List (Bor (Name × Directives))). map (λ f. f.now) rs) c.deref.ensures.value ∙ c.in_ok-refs.ensures in
    subst IsDatabase (sym same) c.requires

pub returns : goal.returns
returns c =
    let same = ap (λ (rs : List (Bor (Name × Directives))). map (λ f. f.now) rs) c.deref.ensures.value ∙ c.in_ok-refs.ensures in
    let is = subst (λ (fs : List (List ℕ × Directives)). IsPayload c.in_ok-payload.payload.items fs) same c.in_ok-payload.ensures in
    is_file (newest c.args.functions.now) c.deref-2.result.now c.seal_payload.result (newest_lawful c.args.functions.now c.requires)
    (subst (λ (bytes : List ℕ). IsPayload bytes c.args.functions.now) (sym c.deref-2.ensures.value) is) c.seal_payload.ensures.room c.seal_payload.ensures.sealed
