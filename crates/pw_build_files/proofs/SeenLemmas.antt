-- Files as a build sees them: in one way, and what is built stands among them as in the store.
use Rattle.std.proofs.Common.{◌≡◌, ℕ, ◌≤◌, not, List, [], ◌∷◌, map, Option, Some, None, Result, Ok, Err, refl, sym, ap, ◌∙◌, subst}
use Rattle.std.specs.Prelude.{IfErr, IfOk, IfSome}
use Rattle.std.specs.FinMap as finite
use Rattle.pw_io.specs.Files.{Files, Told, Keeps}
use Rattle.pw_object.specs.declared.object.Object.{Object}
use Rattle.pw_store_kept.specs.declared.files.ProgramFiles.{ProgramFiles}
use Rattle.pw_store_kept.specs.declared.prepared.Prepared.{Prepared}
use Rattle.pw_store_kept.specs.Files.{IsCompared}
use Rattle.pw_store_kept.specs.Kept.{counted, is_same, kept_object, object_in}
use Rattle.pw_store_modules.specs.FileNames.{database_name, image_name, object_name}
use Rattle.pw_store_modules.specs.Modules.{Source, modules_of}
use Rattle.pw_store_modules.specs.declared.modules.Module.{Module}
use Rattle.pw_store_texts.specs.Seen.{IsSeen}
use Rattle.pw_build_files.specs.FromBuild.BuildFault.{BuildFault}
use Rattle.pw_build_files.specs.FromBuild.BuildFault.TheVariants as build
use Rattle.pw_build_files.specs.FromBuild.Unbuilt.{Unbuilt}
use Rattle.pw_build_files.specs.FromBuild.Builds.{first_phases}
use Rattle.pw_build_files.specs.FromBuild.Phases.{IsLine, refused_line}
use Rattle.pw_build_files.specs.Building.{BuildOutcome, Outcome}
use Rattle.pw_build_files.specs.Genuine.{KeepsGenuine}
use Rattle.pw_build_files.specs.Outcomes.{CountsAtMost, CountsBuilt, CountsFound, CountsSeen, FaultBuilt, FaultFound, outcome_of}
use Rattle.pw_build_files.specs.Seen.{SeenOutcome, SeesModules}
use Rattle.pw_build_files.specs.declared.prepared.Ready.{Ready}
use Rattle.pw_build_opts.specs.declared.opts.Opts.{Opts}
use Rattle.pw_db.specs.Limits.{colour_limit}

-- ---- in one way

abbrev pub OneWay : Type 0
OneWay = (files shown other : Files) → IsSeen files shown → IsSeen files other → shown ≡ other

pub every_shown : OneWay → (files : Files) (Z : Files → Type 0) (shown : Files) → IsSeen files shown → Z shown → (other : Files) → IsSeen files other → Z other
every_shown way files Z shown is z other are = subst Z (way files shown other is are) z

pub one_seen : OneWay → ((files : Files) (opts : Opts) (a b : Result Outcome BuildFault) → opts.colours ≤ colour_limit → BuildOutcome files opts a → BuildOutcome files opts b → a ≡ b)
    → (files : Files) (opts : Opts) (a b : Result Outcome BuildFault) → opts.colours ≤ colour_limit → SeenOutcome files opts a → SeenOutcome files opts b → a ≡ b
one_seen way one files opts a b few h k = one h.0 opts a b few h.2 (subst (λ (f : Files). BuildOutcome f opts b) (way files k.0 h.0 k.1 h.1) k.2)

-- ---- what is built stands as in the store

pub record Beside : Type 0 where
  pub object : (files shown : Files) (name : List ℕ) → IsSeen files shown → finite.get shown (object_name name) ≡ finite.get files (object_name name)
  pub database : (files shown : Files) → IsSeen files shown → finite.get shown database_name ≡ finite.get files database_name
  pub image : (files shown : Files) → IsSeen files shown → finite.get shown image_name ≡ finite.get files image_name

pub kept_same : Beside → (files shown : Files) → IsSeen files shown → (name : List ℕ) → kept_object files name ≡ kept_object shown name
kept_same beside files shown is name = ap (λ (bytes : Option (List ℕ)). object_in (counted bytes)) (sym (beside.object files shown name is))

pub genuine_seen : Beside → (files shown : Files) → IsSeen files shown → KeepsGenuine files → KeepsGenuine shown
genuine_seen beside files shown is keeps name object named e = keeps name object named (kept_same beside files shown is name ∙ e)

pub kept_shown : Beside → (files shown : Files) → IsSeen files shown → (ms : List Module) → map (λ m. kept_object files m.name) ms ≡ map (λ m. kept_object shown m.name) ms
kept_shown beside files shown is [] = refl
kept_shown beside files shown is (m ∷ ms) =
    ap (λ (o : Option Object). o ∷ map (λ m. kept_object files m.name) ms) (kept_same beside files shown is m.name)
    ∙ ap (λ (zs : List (Option Object)). kept_object shown m.name ∷ zs) (kept_shown beside files shown is ms)

pub compared_shown : Beside → (files shown : Files) → IsSeen files shown → (count : ℕ) (made : ProgramFiles) (p : Prepared) → IsCompared files count made p → IsCompared shown count made p
compared_shown beside files shown is count made p c = record {
  modules = c.modules;
  rebuilt = c.rebuilt;
  objects = c.objects;
  database = c.database;
  database_changed = c.database_changed ∙ ap (λ (o : Option (List ℕ)). not (is_same o made.database.items)) (sym (beside.database files shown is));
  image = c.image;
  image_changed = c.image_changed ∙ ap (λ (o : Option (List ℕ)). not (is_same o made.image.items)) (sym (beside.image files shown is));
}

-- ---- the modules that were read

-- what holds as far as the modules are those of files that are seen
pub on_seen : (sources : List Source) (Y : Files → Type 0) (first now : Option Told) → IfSome first (λ t. SeesModules t.files sources) → Keeps first now
    → IfSome now (λ t. (shown : Files) → IsSeen t.files shown → sources ≡ modules_of shown → Y shown) → IfSome first (λ t. (shown : Files) × IsSeen t.files shown × Y shown)
on_seen sources Y None now h same k = tt
on_seen sources Y (Some t) now h same k =
    let P : Option Told → Type 0 = λ o. IfSome o (λ u. (shown : Files) → IsSeen u.files shown → sources ≡ modules_of shown → Y shown) in
    (h.0, h.1, subst P same k h.0 h.1 h.2)

pub comes_seen : (opts : Opts) (r : Result Ready Unbuilt) (first : Option Told) → IfSome first (λ t. (shown : Files) × IsSeen t.files shown × IfOk r (λ p. BuildOutcome shown opts (Ok (outcome_of p.prepared p.objects.items))))
    → IfSome first (λ t. IfOk r (λ p. SeenOutcome t.files opts (Ok (outcome_of p.prepared p.objects.items))))
comes_seen opts r None h = tt
comes_seen opts (Ok p) (Some t) h = (h.0, h.1, h.2)
comes_seen opts (Err u) (Some t) h = tt

built_found : (files shown : Files) (opts : Opts) (fault : BuildFault) → IsSeen files shown → FaultBuilt shown opts fault → FaultFound files opts fault
built_found files shown opts build.StoreFault is h = tt
built_found files shown opts build.NoMemory is h = tt
built_found files shown opts (build.Refused name refusal) is h = (shown, is, h)
built_found files shown opts (build.LinkRefused fault) is h = (shown, is, h)

pub fault_seen : (opts : Opts) (r : Result Ready Unbuilt) (first : Option Told) → IfSome first (λ t. (shown : Files) × IsSeen t.files shown × IfErr r (λ u. FaultBuilt shown opts u.fault)) → IfSome first (λ t. IfErr r (λ u. FaultFound t.files opts u.fault))
fault_seen opts r None h = tt
fault_seen opts (Ok p) (Some t) h = tt
fault_seen opts (Err u) (Some t) h = built_found t.files h.0 opts u.fault h.1 h.2

are_shown : OneWay → (files : Files) (sources : List Source) → SeesModules files sources → (shown : Files) → IsSeen files shown → sources ≡ modules_of shown
are_shown way files sources h shown is = h.2 ∙ ap (λ (f : Files). modules_of f) (way files h.0 shown h.1 is)

pub line_seen : OneWay → (sources : List Source) (r : Result Ready Unbuilt) (first : Option Told) → IfSome first (λ t. SeesModules t.files sources) → IfErr r (λ u. IsLine (refused_line sources) u.fault u.line)
    → IfSome first (λ t. IfErr r (λ u. (shown : Files) → IsSeen t.files shown → IsLine (refused_line (modules_of shown)) u.fault u.line))
line_seen way sources r None h k = tt
line_seen way sources (Ok p) (Some t) h k = tt
line_seen way sources (Err u) (Some t) h k = λ shown is. subst (λ (ss : List Source). IsLine (refused_line ss) u.fault u.line) (are_shown way t.files sources h shown is) k

pub counts_seen : OneWay → (opts : Opts) (r : Result Ready Unbuilt) (before now : ℕ) (first : Option Told) → IfSome first (λ t. (shown : Files) × IsSeen t.files shown × IfErr r (λ u. CountsBuilt shown opts u.fault before now))
    → IfSome first (λ t. IfErr r (λ u. CountsFound t.files opts u.fault before now))
counts_seen way opts r before now None h = tt
counts_seen way opts (Ok p) before now (Some t) h = tt
counts_seen way opts (Err u) before now (Some t) h = λ other are. every_shown way t.files (λ f. CountsBuilt f opts u.fault before now) h.0 h.1 h.2 other are

pub bound_seen : OneWay → (sources : List Source) (before now : ℕ) (first : Option Told) → IfSome first (λ t. SeesModules t.files sources) → CountsAtMost (first_phases sources) before now → IfSome first (λ t. CountsSeen t.files before now)
bound_seen way sources before now None h k = tt
bound_seen way sources before now (Some t) h k = λ shown is. subst (λ (ss : List Source). CountsAtMost (first_phases ss) before now) (are_shown way t.files sources h shown is) k
