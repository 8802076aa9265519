-- Builds over genuine objects are full builds, and leave genuine objects.
use Rattle.std.proofs.Common.{◌≡◌, ℕ, ◌≤◌, cond, inl, inr, Bool, true, false, List, [], ◌∷◌, ◌++◌, Option, Result, Ok, Err, refl, sym, ap, subst}
use Rattle.std.specs.List.{AllByRecursion}
use Rattle.std.specs.FinMap as finite
use Rattle.pw_io.specs.Files.{Files, Told}
use Rattle.pw_object.specs.declared.object.Object.{Object}
use Rattle.pw_image.specs.declared.image.Image.{Image}
use Rattle.pw_image.specs.Image.{Contents, IsImageFile}
use Rattle.pw_link.specs.Linking.{linked}
use Rattle.pw_store_modules.specs.FileNames.{database_name, image_name, object_name}
use Rattle.pw_store_modules.specs.Modules.{Source, Texts, module_map, modules_of, names_of_modules}
use Rattle.pw_top_answer.specs.Effects.{after_puts}
use Rattle.pw_build_objects.specs.Programs.{Parts}
use Rattle.pw_build_objects.specs.Kept.{all_fresh}
use Rattle.pw_build_files.specs.FromBuild.BuildFault.{BuildFault}
use Rattle.pw_build_files.specs.FromBuild.Builds.{Builds, first_phases}
use Rattle.pw_build_files.specs.FromBuild.Full.{built_anew}
use Rattle.pw_store_kept.specs.Kept.{is_same}
use Rattle.pw_store_kept.specs.Files.{made_anew}
use Rattle.pw_build_files.specs.Building.{BuildOutcome, IsOutcome, Outcome, if_changed, kept_objects}
use Rattle.pw_build_files.specs.Full.{BuildsImage, image_of}
use Rattle.pw_build_files.specs.Genuine.{IsBuiltName, IsOwnFile, KeepsGenuine}
use Rattle.pw_build_files.proofs.GenuineLemmas.{FileLaws, after_keeps, files_good, good_append, no_database, no_image, own_genuine, parts_genuine}
use Rattle.pw_db.specs.Limits.{colour_limit}
use Rattle.pw_build_opts.specs.declared.opts.Opts.{Opts}

-- ---- one image

ok_parts : (a b : Parts) → ◌≡◌ {A = Result Parts BuildFault} (Ok a) (Ok b) → a ≡ b
ok_parts a b e = cc

no_parts : (a : Parts) (fault : BuildFault) → ◌≡◌ {A = Result Parts BuildFault} (Ok a) (Err fault) → ⊥
no_parts a fault e = cc

same_fault : (f g : BuildFault) → ◌≡◌ {A = Result Parts BuildFault} (Err f) (Err g) → ◌≡◌ {A = Result (List ℕ) BuildFault} (Err f) (Err g)
same_fault f g e = cc

abbrev HasOneBuild : Type 0
HasOneBuild = (sources : List Source) (kept : List (Option Object)) (opts : Opts) (a b : Result Parts BuildFault) → opts.colours ≤ colour_limit → Builds sources kept opts a → Builds sources kept opts b → a ≡ b

abbrev HasOneFile : Type 0
HasOneFile = (bytes others : List ℕ) (c d : Contents Image) → IsImageFile bytes c → IsImageFile others d → c.value ≡ d.value → bytes ≡ others

pub one_image : HasOneBuild → HasOneFile → (texts : Texts) (opts : Opts) (a b : Result (List ℕ) BuildFault) → opts.colours ≤ colour_limit → BuildsImage texts opts a → BuildsImage texts opts b → a ≡ b
one_image build file texts opts (Ok x) (Ok y) few a b =
    let same : a.0 ≡ b.0 = ok_parts a.0 b.0 (build (finite.entries texts) [] opts (Ok a.0) (Ok b.0) few a.1 b.1) in
    ap Ok (file x y _ _ a.2.1 b.2.1 (ap (λ (p : Parts). linked p.objects opts.stack) same))
one_image build file texts opts (Ok x) (Err fault) few a b = absurd (no_parts a.0 fault (build (finite.entries texts) [] opts (Ok a.0) (Err fault) few a.1 b))
one_image build file texts opts (Err fault) (Ok y) few a b = absurd (no_parts b.0 fault (build (finite.entries texts) [] opts (Ok b.0) (Err fault) few b.1 a))
one_image build file texts opts (Err f) (Err g) few a b = same_fault f g (build (finite.entries texts) [] opts (Err f) (Err g) few a b)

-- ---- the full build's

abbrev GivesFull : Type 0
GivesFull = (files : Files) (opts : Opts) (a : Result Parts BuildFault) → KeepsGenuine files → Builds (modules_of files) (kept_objects files) opts a → Builds (modules_of files) [] opts (built_anew a)

pub full_image : GivesFull → (files : Files) (opts : Opts) (comes : Result Outcome BuildFault) → KeepsGenuine files → BuildOutcome files opts comes → BuildsImage (module_map files) opts (image_of comes)
full_image full files opts (Ok outcome) keeps h = (all_fresh h.0, full files opts (Ok h.0) keeps h.1, (h.2.image_names, h.2.image_file))
full_image full files opts (Err fault) keeps h = full files opts (Err fault) keeps h

-- ---- what is left

if_changed_good : (files : Files) (name bytes : List ℕ) → IsBuiltName name → ((other : List ℕ) → object_name other ≡ name → ⊥) → AllByRecursion IsOwnFile (if_changed files name bytes)
if_changed_good files name bytes built apart = by_same (is_same (finite.get files name) bytes)
  where
    by_same : (same : Bool) → AllByRecursion IsOwnFile (cond same [] ((name, bytes) ∷ []))
    by_same true = tt
    by_same false = ((built, λ other named. absurd (apart other named)), tt)

objects_good : (files : Files) (opts : Opts) (parts : Parts) (outcome : Outcome) → Builds (modules_of files) (kept_objects files) opts (Ok parts) → (o : IsOutcome files opts.stack parts outcome) → AllByRecursion IsOwnFile o.objects
objects_good files opts parts outcome builds o =
    let names = names_of_modules files in
    files_good (made_anew names parts.objects parts.fresh) o.objects (parts_genuine names (first_phases (modules_of files)) (kept_objects files) opts parts builds) o.object_bytes o.object_files

outcome_good : (files : Files) (opts : Opts) (parts : Parts) (outcome : Outcome) → Builds (modules_of files) (kept_objects files) opts (Ok parts) → IsOutcome files opts.stack parts outcome → AllByRecursion IsOwnFile outcome.puts
outcome_good files opts parts outcome builds o =
    let db = if_changed files database_name o.database in
    let img = if_changed files image_name outcome.image in
    subst (AllByRecursion IsOwnFile) (sym o.puts)
    (good_append o.objects (db ++ img) (objects_good files opts parts outcome builds o)
    (good_append db img (if_changed_good files database_name o.database (inr (inl refl)) no_database) (if_changed_good files image_name outcome.image (inr (inr refl)) no_image)))

pub genuine_left : FileLaws → (told : Told) (opts : Opts) (outcome : Outcome) → KeepsGenuine told.files → BuildOutcome told.files opts (Ok outcome) → KeepsGenuine (after_puts told outcome.puts).files
genuine_left laws told opts outcome keeps h = after_keeps laws told outcome.puts keeps (own_genuine outcome.puts (outcome_good told.files opts h.0 outcome h.1 h.2))
