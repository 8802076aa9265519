-- What stands in a store's files after a build.
use Rattle.std.proofs.Common.{◌≡◌, ◌≢◌, ℕ, ◌+◌, true, false, List, [], ◌∷◌, ◌++◌, codes, length, drop, Option, Some, None, Result, Ok, refl, sym, ap, ◌∙◌, subst, arith, length-append}
use Rattle.std.specs.List.{AllByRecursion}
use Rattle.std.specs.Prelude.{if◌then◌else◌}
use Rattle.std.specs.FinMap as finite
use Rattle.std.proofs.lemmas.List.{drop_at}
use Rattle.std.proofs.lemmas.Slice.Eq.{bytes_eq-Decides}
use Rattle.pw_io.specs.Files.{Files, Told, after_put}
use Rattle.pw_object.specs.declared.object.Object.{Object}
use Rattle.pw_store_modules.specs.FileNames.{database_name, image_name, object_ending, object_name}
use Rattle.pw_store_modules.specs.Modules.{module_map, modules_of}
use Rattle.pw_top_answer.specs.Effects.{NamedFile, after_puts}
use Rattle.pw_build_objects.specs.Programs.{Parts}
use Rattle.pw_build_objects.specs.Kept.{all_fresh}
use Rattle.pw_build_files.specs.FromBuild.BuildFault.{BuildFault}
use Rattle.pw_build_files.specs.FromBuild.Builds.{Builds}
use Rattle.pw_build_files.specs.FromBuild.Full.{built_anew}
use Rattle.pw_store_kept.specs.Kept.{is_same}
use Rattle.pw_store_kept.specs.Files.{AreObjectFiles}
use Rattle.pw_build_files.specs.Building.{BuildOutcome, IsOutcome, Outcome, if_changed, kept_objects}
use Rattle.pw_build_files.specs.Genuine.{KeepsGenuine}
use Rattle.pw_law_build.specs.Whole.{HoldsBuild, HoldsFile, HoldsFullBuild, HoldsProgram}
use Rattle.pw_build_opts.specs.declared.opts.Opts.{Opts}

-- what is known of files under puts
pub record FileLaws : Type 0 where
  pub inserted : (files : Files) (name bytes : List ℕ) → finite.get (finite.insert files name bytes) name ≡ Some bytes
  pub insertion : (files : Files) (name bytes other : List ℕ) → other ≢ name → finite.get (finite.insert files name bytes) other ≡ finite.get files other

-- ---- files that are not put

pub get_other : FileLaws → (told : Told) (files : List NamedFile) (name : List ℕ) → AllByRecursion (λ file. name ≢ file.0) files → finite.get (after_puts told files).files name ≡ finite.get told.files name
get_other laws told [] name h = refl
get_other laws told (file ∷ files) name h = get_other laws (after_put told file.0 file.1) files name h.1 ∙ laws.insertion told.files file.0 file.1 name h.0

pub after_both : (told : Told) (xs ys : List NamedFile) → after_puts told (xs ++ ys) ≡ after_puts (after_puts told xs) ys
after_both told [] ys = refl
after_both told (x ∷ xs) ys = after_both (after_put told x.0 x.1) xs ys

pub objects_apart : (made : List (List ℕ × Object)) (files : List NamedFile) (name : List ℕ) → ((n : List ℕ) → object_name n ≡ name → ⊥) → AreObjectFiles made files → AllByRecursion (λ file. name ≢ file.0) files
objects_apart [] [] name apart h = tt
objects_apart [] (f ∷ fs) name apart h = absurd h
objects_apart (m ∷ ms) [] name apart h = absurd h
objects_apart (m ∷ ms) (f ∷ fs) name apart h = ((λ e. apart m.0 (sym (e ∙ h.0))), objects_apart ms fs name apart h.2)

pub changed_apart : (old : Files) (name bytes other : List ℕ) → other ≢ name → AllByRecursion (λ (file : NamedFile). other ≢ file.0) (if_changed old name bytes)
changed_apart old name bytes other apart =
    elim (is_same (finite.get old name) bytes) as (λ b. AllByRecursion (λ (file : NamedFile). other ≢ file.0) (if b then [] else (name, bytes) ∷ [])) [
      | true ↦ tt
      | false ↦ (apart, tt)
    ]

-- ---- a file that is put where it differs

no_true : false ≡ true → ⊥
no_true e = cc

-- the file that is the same has these bytes
same_holds : (file : Option (List ℕ)) (bytes : List ℕ) → is_same file bytes ≡ true → file ≡ Some bytes
same_holds None bytes e = absurd (no_true e)
same_holds (Some kept) bytes e = ap (λ (b : List ℕ). Some b) ((bytes_eq-Decides kept bytes).0 e)

changed_holds : FileLaws → (old : Files) (told : Told) (name bytes : List ℕ) → finite.get told.files name ≡ finite.get old name → HoldsFile (after_puts told (if_changed old name bytes)).files name bytes
changed_holds laws old told name bytes e =
    elim (is_same (finite.get old name) bytes) as (λ b. is_same (finite.get old name) bytes ≡ b → HoldsFile (after_puts told (if b then [] else (name, bytes) ∷ [])).files name bytes) [
      | true ↦ λ t. e ∙ same_holds (finite.get old name) bytes t
      | false ↦ λ t. laws.inserted told.files name bytes
    ] refl

-- ---- names

apart_at : (name file ending : List ℕ) (n : ℕ) → length file ≡ n + 4 → drop n file ≡ ending → object_name name ≡ file → object_ending ≡ ending
apart_at name file ending n size end e =
    let l = length-append name object_ending in
    let k : length name ≡ n = omega (arith, l, ap length e, size) in
    sym (drop_at name object_ending n k) ∙ ap (drop n) e ∙ end

first_is : (a b : ℕ) (xs ys : List ℕ) → a ∷ xs ≡ b ∷ ys → a ≡ b
first_is a b xs ys e = cc

rest_is : (a b : ℕ) (xs ys : List ℕ) → a ∷ xs ≡ b ∷ ys → xs ≡ ys
rest_is a b xs ys e = cc

pub no_database : (name : List ℕ) → object_name name ≡ database_name → ⊥
no_database name e = differ (apart_at name database_name (codes "g.db") 3 refl refl e)
  where
    differ : object_ending ≡ codes "g.db" → ⊥
    differ e = let h : 46 ≡ 103 = first_is 46 103 _ _ e in omega (arith, h)

pub no_image : (name : List ℕ) → object_name name ≡ image_name → ⊥
no_image name e = differ (apart_at name image_name (codes ".img") 4 refl refl e)
  where
    differ : object_ending ≡ codes ".img" → ⊥
    differ e = let h : 111 ≡ 105 = first_is 111 105 _ _ (rest_is 46 46 _ _ e) in omega (arith, h)

two_names : database_name ≡ image_name → ⊥
two_names e = let h : 7 ≡ 8 = ap length e in omega (arith, h)

-- ---- the build

-- both files of the program stand there
pub both_stand : FileLaws → (told : Told) (stack : ℕ) (parts : Parts) (outcome : Outcome) (o : IsOutcome told.files stack parts outcome) → HoldsFile (after_puts told outcome.puts).files database_name o.database × HoldsFile (after_puts told outcome.puts).files image_name outcome.image
both_stand laws told stack parts outcome o =
    let db : List ℕ = database_name in
    let img : List ℕ = image_name in
    let first : Told = after_puts told o.objects in
    let second : Told = after_puts first (if_changed told.files db o.database) in
    let third : Told = after_puts second (if_changed told.files img outcome.image) in
    let all : after_puts told outcome.puts ≡ third =
    ap (after_puts told) o.puts ∙ after_both told o.objects (if_changed told.files db o.database ++ if_changed told.files img outcome.image)
    ∙ after_both first (if_changed told.files db o.database) (if_changed told.files img outcome.image) in
    let db_first : finite.get first.files db ≡ finite.get told.files db = get_other laws told o.objects db (objects_apart _ o.objects db no_database o.object_files) in
    let img_first : finite.get first.files img ≡ finite.get told.files img = get_other laws told o.objects img (objects_apart _ o.objects img no_image o.object_files) in
    let db_second : HoldsFile second.files db o.database = changed_holds laws told.files first db o.database db_first in
    let img_second : finite.get second.files img ≡ finite.get first.files img =
    get_other laws first (if_changed told.files db o.database) img (changed_apart told.files db o.database img (λ e. two_names (sym e))) in
    let db_third : finite.get third.files db ≡ finite.get second.files db =
    get_other laws second (if_changed told.files img outcome.image) db (changed_apart told.files img outcome.image db two_names) in
    subst (λ (t : Told). HoldsFile t.files db o.database × HoldsFile t.files img outcome.image) (sym all)
    (db_third ∙ db_second, changed_holds laws told.files second img outcome.image (img_second ∙ img_first))

holds_program : FileLaws → (told : Told) (stack : ℕ) (parts : Parts) (outcome : Outcome) → IsOutcome told.files stack parts outcome → HoldsProgram parts stack (after_puts told outcome.puts).files
holds_program laws told stack parts outcome o =
    let both = both_stand laws told stack parts outcome o in
    record {
      database = o.database;
      database_file = o.database_file;
      database_stands = both.0;
      image = outcome.image;
      image_file = (o.image_names, o.image_file);
      image_stands = both.1;
    }

all_anew : (parts : Parts) (stack : ℕ) (files : Files) → HoldsProgram parts stack files → HoldsProgram (all_fresh parts) stack files
all_anew parts stack files h = record {
  database = h.database;
  database_file = h.database_file;
  database_stands = h.database_stands;
  image = h.image;
  image_file = h.image_file;
  image_stands = h.image_stands;
}

pub holds_full_build : FileLaws
    → ((files : Files) (opts : Opts) (a : Result Parts BuildFault) → KeepsGenuine files → Builds (modules_of files) (kept_objects files) opts a → Builds (modules_of files) [] opts (built_anew a))
    → (told : Told) (opts : Opts) (outcome : Outcome) → KeepsGenuine told.files → BuildOutcome told.files opts (Ok outcome) → HoldsFullBuild (module_map told.files) opts (after_puts told outcome.puts).files
holds_full_build laws full told opts outcome keeps comes = (
  all_fresh comes.0,
  full told.files opts (Ok comes.0) keeps comes.1,
  all_anew comes.0 opts.stack (after_puts told outcome.puts).files (holds_program laws told opts.stack comes.0 outcome comes.2),
)

pub holds_build : FileLaws → (told : Told) (opts : Opts) (outcome : Outcome) → BuildOutcome told.files opts (Ok outcome) → HoldsBuild told.files opts (after_puts told outcome.puts).files
holds_build laws told opts outcome comes = (comes.0, comes.1, holds_program laws told opts.stack comes.0 outcome comes.2)
