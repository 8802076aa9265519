-- The files of a store come to one build.
use Rattle.std.proofs.Common.{◌≡◌, ℕ, ◌≤◌, List, [], ◌∷◌, ◌++◌, Option, Result, Ok, Err, refl, sym, ap, ◌∙◌, subst}
use Rattle.pw_io.specs.Files.{Files}
use Rattle.pw_db.specs.declared.database.Directives.{Directives}
use Rattle.pw_db_file.specs.Spelling.{IsNewFile}
use Rattle.pw_object.specs.declared.object.Object.{Object}
use Rattle.pw_object.specs.Object.{IsObjectFile}
use Rattle.pw_image.specs.declared.image.Image.{Image}
use Rattle.pw_image.specs.Image.{Contents, IsImageFile}
use Rattle.pw_store_modules.specs.FileNames.{database_name, image_name}
use Rattle.pw_store_modules.specs.Modules.{Source, modules_of, names_of_modules}
use Rattle.pw_top_answer.specs.Effects.{NamedFile}
use Rattle.pw_build_objects.specs.Programs.{Parts}
use Rattle.pw_build_files.specs.FromBuild.BuildFault.{BuildFault}
use Rattle.pw_build_files.specs.FromBuild.Builds.{Builds}
use Rattle.pw_store_kept.specs.Files.{AreObjectFiles, made_anew}
use Rattle.pw_build_files.specs.Building.{BuildOutcome, IsOutcome, Outcome, if_changed, kept_objects}
use Rattle.pw_db.specs.Limits.{colour_limit}
use Rattle.pw_build_opts.specs.declared.opts.Opts.{Opts}

-- the laws on which it stands
pub record Laws : Type 0 where
  pub build : (sources : List Source) (kept : List (Option Object)) (opts : Opts) (a b : Result Parts BuildFault) → opts.colours ≤ colour_limit → Builds sources kept opts a → Builds sources kept opts b → a ≡ b
  pub database : (bytes others : List ℕ) (fs : List (List ℕ × Directives)) → IsNewFile bytes fs → IsNewFile others fs → bytes ≡ others
  pub image : (bytes others : List ℕ) (c d : Contents Image) → IsImageFile bytes c → IsImageFile others d → c.value ≡ d.value → bytes ≡ others
  pub object : (bytes others : List ℕ) (o : Object) → IsObjectFile bytes o → IsObjectFile others o → bytes ≡ others

ok_one : (a b : Parts) → ◌≡◌ {A = Result Parts BuildFault} (Ok a) (Ok b) → a ≡ b
ok_one a b e = cc

no_fault : (a : Parts) (fault : BuildFault) → ◌≡◌ {A = Result Parts BuildFault} (Ok a) (Err fault) → ⊥
no_fault a fault e = cc

file_one : (f g : NamedFile) → f.0 ≡ g.0 → f.1 ≡ g.1 → f ≡ g
file_one f g n b = ap (λ (x : List ℕ). (x, f.1)) n ∙ ap (λ (x : List ℕ). (g.0, x)) b

files_one : Laws → (made : List (List ℕ × Object)) (xs ys : List NamedFile) → AreObjectFiles made xs → AreObjectFiles made ys → xs ≡ ys
files_one laws [] [] [] a b = refl
files_one laws [] [] (y ∷ ys) a b = absurd b
files_one laws [] (x ∷ xs) ys a b = absurd a
files_one laws (m ∷ ms) [] ys a b = absurd a
files_one laws (m ∷ ms) (x ∷ xs) [] a b = absurd b
files_one laws (m ∷ ms) (x ∷ xs) (y ∷ ys) a b =
    ap (λ (z : NamedFile). z ∷ xs) (file_one x y (a.0 ∙ sym b.0) (laws.object x.1 y.1 m.1 a.1 b.1)) ∙ ap (λ (zs : List NamedFile). y ∷ zs) (files_one laws ms xs ys a.2 b.2)

outcome_one : Laws → (files : Files) (stack : ℕ) (parts : Parts) (o p : Outcome) → IsOutcome files stack parts o → IsOutcome files stack parts p → o ≡ p
outcome_one laws files stack parts o p a b =
    let made = made_anew (names_of_modules files) parts.objects parts.fresh in
    let objects : a.objects ≡ b.objects = files_one laws made a.objects b.objects a.object_files b.object_files in
    let database : a.database ≡ b.database = laws.database a.database b.database parts.database a.database_file b.database_file in
    let image : o.image ≡ p.image = laws.image o.image p.image _ _ a.image_file b.image_file refl in
    let puts : o.puts ≡ p.puts = a.puts
    ∙ ap (λ (zs : List NamedFile). zs ++ (if_changed files database_name a.database ++ if_changed files image_name o.image)) objects
    ∙ ap (λ (z : List ℕ). b.objects ++ (if_changed files database_name z ++ if_changed files image_name o.image)) database
    ∙ ap (λ (z : List ℕ). b.objects ++ (if_changed files database_name b.database ++ if_changed files image_name z)) image
    ∙ sym b.puts in
    λ i. record {
      modules = (a.modules ∙ sym b.modules) i;
      rebuilt = (a.rebuilt ∙ sym b.rebuilt) i;
      image = image i;
      puts = puts i;
      linked_objects = (a.linked_objects ∙ sym b.linked_objects) i;
    }

pub one_build : Laws → (files : Files) (opts : Opts) (a b : Result Outcome BuildFault) → opts.colours ≤ colour_limit → BuildOutcome files opts a → BuildOutcome files opts b → a ≡ b
one_build laws files opts (Ok o) (Ok p) few a b =
    let same : b.0 ≡ a.0 = ok_one b.0 a.0 (laws.build (modules_of files) (kept_objects files) opts (Ok b.0) (Ok a.0) few b.1 a.1) in
    ap Ok (outcome_one laws files opts.stack a.0 o p a.2 (subst (λ (x : Parts). IsOutcome files opts.stack x p) same b.2))
one_build laws files opts (Ok o) (Err fault) few a b = absurd (no_fault a.0 fault (laws.build (modules_of files) (kept_objects files) opts (Ok a.0) (Err fault) few a.1 b))
one_build laws files opts (Err fault) (Ok p) few a b = absurd (no_fault b.0 fault (laws.build (modules_of files) (kept_objects files) opts (Ok b.0) (Err fault) few b.1 a))
one_build laws files opts (Err fault) (Err other) few a b = faults_one fault other (laws.build (modules_of files) (kept_objects files) opts (Err fault) (Err other) few a b)
  where
    faults_one : (f g : BuildFault) → ◌≡◌ {A = Result Parts BuildFault} (Err f) (Err g) → ◌≡◌ {A = Result Outcome BuildFault} (Err f) (Err g)
    faults_one f g e = cc
