-- A build over what a build left, where no flow graph changed since.
use Rattle.std.proofs.Common.{◌≡◌, inl, inr, ℕ, cond, Bool, true, false, List, [], ◌∷◌, ◌++◌, length, map, Option, Some, Result, Ok, refl, sym, ap, ◌∙◌, subst}
use Rattle.std.specs.Ordering.{nat_cmp, eq_by_cmp}
use Rattle.std.specs.Cmp.Lexicographic.{slice_cmp, nat_list_cmp_total}
use Rattle.std.specs.FinMap as finite
use Rattle.std.specs.FinMap.{get-insert, same_map, slice_cmp-IsAntisymmetric, nat_cmp-IsAntisymmetric}
use Rattle.std.proofs.lemmas.Map.Lookups.{exact_bytes}
use Rattle.std.proofs.lemmas.Map.Views.{tells_apart}
use Rattle.std.proofs.lemmas.Slice.Eq.{bytes_eq-Decides}
use Rattle.pw_io.specs.Files.{Files, Told}
use Rattle.pw_flow.specs.declared.flow.FlowModule.{FlowModule}
use Rattle.pw_object.specs.declared.object.Object.{Object}
use Rattle.pw_store_modules.specs.FileNames.{database_name, image_name, object_name}
use Rattle.pw_store_modules.specs.Modules.{Source, modules_of, names_of_modules}
use Rattle.pw_top_answer.specs.Effects.{NamedFile, after_puts}
use Rattle.pw_build_objects.specs.Programs.{AreObjectsFrom, AreParts, DirectivesList, IsMadeOf, IsObjectFrom, Parts, kept_behind}
use Rattle.pw_build_files.specs.FromBuild.BuildFault.{BuildFault}
use Rattle.pw_build_files.specs.FromBuild.Builds.{Builds, BuildsBy, first_phases}
use Rattle.pw_store_kept.specs.Kept.{counted, is_same, kept_object, object_in}
use Rattle.pw_store_kept.specs.Files.{AreObjectFiles, made_anew}
use Rattle.pw_build_files.specs.Building.{BuildOutcome, IsOutcome, Outcome, if_changed, kept_objects}
use Rattle.pw_law_build.specs.Whole.{HoldsFile}
use Rattle.pw_law_build.specs.Kept.{FitObjects, KeepsFlows, KeepsObjects, unchanged}
use Rattle.pw_law_build.proofs.WholeLemmas.{both_stand}
use Rattle.pw_law_build.proofs.KeptLemmas.{FormsAreAsMany, Laws, completed, keeps_objects}
use Rattle.pw_build_opts.specs.declared.opts.Opts.{Opts}

-- ---- the objects stay

-- the same parts, of which nothing is made anew
abbrev stayed : Parts → Parts
stayed parts = record { database = parts.database; objects = parts.objects; fresh = map (λ _. false) parts.objects }

made_so : (flow : FlowModule) (directives : DirectivesList) (old : Option Object) (o : Object) (fresh : Bool) → IsObjectFrom flow directives old o fresh → IsMadeOf flow directives o
made_so flow directives old o true h = record { flow_file = h.1.flow_file; payload = h.1.payload }
made_so flow directives old o false h = h.1

objects_stay : (db : DirectivesList) (flows : List FlowModule) (kept : List (Option Object)) (os : List Object) (bs : List Bool) → AreObjectsFrom db flows kept os bs → AreObjectsFrom db flows (map (λ o. Some o) os) os (map (λ _. false) os)
objects_stay db [] kept [] bs h = tt
objects_stay db [] kept (o ∷ os) bs h = absurd h
objects_stay db (f ∷ fs) kept [] bs h = absurd h
objects_stay db (f ∷ fs) kept (o ∷ os) [] h = absurd h
objects_stay db (f ∷ fs) kept (o ∷ os) (b ∷ bs) h = (
  record { directives = h.0.directives; in_database = h.0.in_database; object = (refl, made_so f h.0.directives _ o b h.0.object) },
  objects_stay db fs (kept_behind kept) os bs h.1,
)

builds_on : (sources others : List Source) (kept : List (Option Object)) (opts : Opts) (parts : Parts) → first_phases others ≡ first_phases sources → Builds sources kept opts (Ok parts) → Builds others (map (λ o. Some o) parts.objects) opts (Ok (stayed parts))
builds_on sources others kept opts parts same h =
    let c = completed (first_phases sources) kept opts parts h in
    let p = c.completes.0 in
    let again : AreParts c.flows (map (λ o. Some o) parts.objects) opts (stayed parts) =
    record { lawful = p.lawful; rules = p.rules; forms = p.forms; of_flows = p.of_flows; database = p.database; objects = objects_stay parts.database p.forms kept parts.objects parts.fresh p.objects } in
    subst (λ (r : Result (List FlowModule) BuildFault). BuildsBy r (map (λ o. Some o) parts.objects) opts (Ok (stayed parts))) (sym (same ∙ c.are)) (again, c.completes.1)

-- the same objects are kept under the names of modules
kept_alike : (old new : Files) (names : List (List ℕ)) → ((name : List ℕ) → finite.get new (object_name name) ≡ finite.get old (object_name name)) → map (kept_object new) names ≡ map (kept_object old) names
kept_alike old new [] same = refl
kept_alike old new (n ∷ ns) same =
    ap (λ (k : Option Object). k ∷ map (kept_object new) ns) (ap (λ (b : Option (List ℕ)). object_in (counted b)) (same n))
    ∙ ap (λ (ks : List (Option Object)). kept_object old n ∷ ks) (kept_alike old new ns same)

-- ---- nothing is put

made_none : (ns : List (List ℕ)) (os : List Object) → made_anew ns os (map (λ _. false) os) ≡ []
made_none [] os = refl
made_none (n ∷ ns) [] = refl
made_none (n ∷ ns) (o ∷ os) = made_none ns os

same_there : (files : Files) (name bytes : List ℕ) → HoldsFile files name bytes → is_same (finite.get files name) bytes ≡ true
same_there files name bytes stands = ap (λ (k : Option (List ℕ)). is_same k bytes) stands ∙ (bytes_eq-Decides bytes bytes).1 refl

none_put : (files : Files) (name bytes : List ℕ) → is_same (finite.get files name) bytes ≡ true → if_changed files name bytes ≡ []
none_put files name bytes e = ap (λ (same : Bool). cond {A = List NamedFile} same [] ((name, bytes) ∷ [])) e

pub edit_comes : Laws → FormsAreAsMany → (told : Told) (opts : Opts) (parts : Parts) (outcome : Outcome) (files : Files) → Builds (modules_of told.files) (kept_objects told.files) opts (Ok parts) → IsOutcome told.files opts.stack parts outcome → FitObjects parts.objects
    → KeepsFlows (after_puts told outcome.puts).files files → BuildOutcome files opts (Ok (unchanged outcome))
edit_comes laws count told opts parts outcome files builds o fits edit =
    let left : Files = (after_puts told outcome.puts).files in
    let keeps : KeepsObjects told.files left parts = keeps_objects laws count told opts parts outcome builds o in
    let names : names_of_modules files ≡ names_of_modules told.files = edit.names ∙ ap (λ (ss : List Source). map (λ s. s.0) ss) keeps.modules in
    let phases : first_phases (modules_of files) ≡ first_phases (modules_of told.files) = edit.phases ∙ ap (λ (ss : List Source). first_phases ss) keeps.modules in
    let kept : kept_objects files ≡ map (λ x. Some x) parts.objects =
    ap (λ (ns : List (List ℕ)). map (kept_object files) ns) edit.names ∙ kept_alike left files (names_of_modules left) (λ n. edit.built (object_name n) (inl (n, refl))) ∙ keeps.objects fits in
    let stands = both_stand laws.files told opts.stack parts outcome o in
    let db_stands : HoldsFile files database_name o.database = edit.built database_name (inr (inl refl)) ∙ stands.0 in
    let img_stands : HoldsFile files image_name outcome.image = edit.built image_name (inr (inr refl)) ∙ stands.1 in
    let db : if_changed files database_name o.database ≡ [] = none_put files database_name o.database (same_there files database_name o.database db_stands) in
    let img : if_changed files image_name outcome.image ≡ [] = none_put files image_name outcome.image (same_there files image_name outcome.image img_stands) in (
      stayed parts,
      subst (λ (ks : List (Option Object)). Builds (modules_of files) ks opts (Ok (stayed parts))) (sym kept)
          (builds_on (modules_of told.files) (modules_of files) (kept_objects told.files) opts parts phases builds),
      record {
        modules = o.modules ∙ ap length (sym names);
        rebuilt = ap (λ (made : List (List ℕ × Object)). map (λ m. m.0) made) (sym (made_none (names_of_modules files) parts.objects));
        objects = [];
        object_files = subst (λ (made : List (List ℕ × Object)). AreObjectFiles made []) (sym (made_none (names_of_modules files) parts.objects)) tt;
        object_bytes = tt;
        database = o.database;
        database_file = o.database_file;
        image_names = o.image_names;
        image_file = o.image_file;
        puts = sym (ap (λ (fs : List NamedFile). fs ++ if_changed files image_name outcome.image) db ∙ img);
        linked_objects = o.linked_objects;
      },
    )

-- ---- a text that is put where it stands already

pub same_put : (files : Files) (name text : List ℕ) → finite.get files name ≡ Some text → finite.insert files name text ≡ files
same_put files name text e =
    same_map nat_list_cmp_total (slice_cmp-IsAntisymmetric nat_cmp-IsAntisymmetric) (finite.insert files name text) files (λ q. by_test q (eq_by_cmp (slice_cmp nat_cmp) q name) refl)
  where
    by_test : (q : List ℕ) (b : Bool) → eq_by_cmp (slice_cmp nat_cmp) q name ≡ b → finite.get (finite.insert files name text) q ≡ finite.get files q
    by_test q true t =
        get-insert nat_list_cmp_total files name text q ∙ ap (λ (b : Bool). cond b (Some text) (finite.get files q)) t ∙ sym (ap (finite.get files) (tells_apart exact_bytes q name t) ∙ e)
    by_test q false t = get-insert nat_list_cmp_total files name text q ∙ ap (λ (b : Bool). cond b (Some text) (finite.get files q)) t
