use Rattle.std.proofs.Common.{List, ℕ, Bor, map, sym, subst, ◌∙◌, ap}
use Rattle.pw_value.specs.declared.name.Name.{Name}
use Rattle.pw_files.specs.Contents.{IsContentsOf}
use Rattle.pw_db.specs.declared.database.Directives.{Directives}
use Rattle.pw_db.specs.Database.{IsVersioned, of_version}
use Rattle.pw_db_file.specs.Spelling.{IsDatabaseContents, spelling}
use Rattle.pw_db_file.proofs.WritingLemmas.{is_file}
use Rattle.pw_db_file.proofs.writing.write.Goals as goal

pub write_version-requires : goal.write_version-requires
write_version-requires c =
    let same = ap (λ (rs : List (Bor (Name × Directives))). map (λ f. f.now) rs) c.deref.ensures.value ∙ c.in_ok-refs.ensures ∙ c.as_slice.ensures in
    subst (λ (fs : List (List ℕ × Directives)). IsVersioned (of_version c.args.db.now.version fs)) (sym same) c.requires

pub returns : goal.returns
returns c =
    let db = c.args.db.now in
    let same = ap (λ (rs : List (Bor (Name × Directives))). map (λ f. f.now) rs) c.deref.ensures.value ∙ c.in_ok-refs.ensures ∙ c.as_slice.ensures in
    let is = subst (λ (fs : List (List ℕ × Directives)). IsContentsOf (spelling db.version) (IsDatabaseContents db.version) c.in_ok-payload.payload.items (of_version db.version fs)) same c.in_ok-payload.ensures in
    is_file db c.deref-2.result.now c.seal_payload.result c.requires (subst (λ (bytes : List ℕ). IsContentsOf (spelling db.version) (IsDatabaseContents db.version) bytes db) (sym c.deref-2.ensures.value) is) c.seal_payload.ensures.room c.seal_payload.ensures.sealed
