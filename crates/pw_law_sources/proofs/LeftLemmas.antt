-- What a build leaves of a store with C sources.
use Rattle.std.proofs.Common.{◌≡◌, inl, inr, ℕ, true, false, List, [], ◌∷◌, ◌++◌, map, Option, Result, Ok, refl, sym, ap, ◌∙◌, subst}
use Rattle.std.specs.Prelude.{if◌then◌else◌}
use Rattle.std.specs.FinMap as finite
use Rattle.pw_io.specs.Files.{Files, Told}
use Rattle.pw_flow.specs.declared.flow.FlowModule.{FlowModule}
use Rattle.pw_object.specs.declared.object.Object.{Object}
use Rattle.pw_store_kept.specs.Files.{AreObjectFiles, made_anew}
use Rattle.pw_store_kept.specs.Kept.{is_same}
use Rattle.pw_store_modules.specs.FileNames.{database_name, image_name}
use Rattle.pw_store_modules.specs.Modules.{Source, module_map, modules_of, names_of_modules}
use Rattle.pw_store_texts.specs.Seen.{IsSeen}
use Rattle.pw_top_answer.specs.Effects.{NamedFile, after_puts}
use Rattle.pw_value.specs.declared.fault.LinkFault.{LinkFault}
use Rattle.pw_build_objects.specs.Programs.{Parts}
use Rattle.pw_build_files.specs.FromBuild.BuildFault.{BuildFault}
use Rattle.pw_build_files.specs.FromBuild.Builds.{Builds, before_others, flows_of, limit_passed, within}
use Rattle.pw_build_files.specs.FromBuild.FirstPhase.{Phase, compiled}
use Rattle.pw_build_files.specs.Building.{BuildOutcome, IsOutcome, Outcome, if_changed, kept_objects}
use Rattle.pw_build_files.specs.Genuine.{IsBuiltName, KeepsGenuine}
use Rattle.pw_build_files.specs.Outcomes.{AreBuilt}
use Rattle.pw_build_files.specs.Seen.{SeenOutcome}
use Rattle.pw_build_opts.specs.declared.opts.Opts.{Opts}
use Rattle.pw_law_build.specs.Kept.{FitObjects, KeepsFlows, KeepsObjects, unchanged}
use Rattle.pw_law_build.specs.Whole.{HoldsBuild, HoldsFullBuild, HoldsProgram}
use Rattle.pw_law_sources.specs.Left.{HoldsSeenBuild, HoldsSeenFullBuild, KeepsPhases, KeepsSeenObjects, phases_of}
use Rattle.pw_law_sources.proofs.ShownLemmas.{Beside, built_seen}

-- ---- what a build puts has names of builds

objects_built : (made : List (List ℕ × Object)) (files : List NamedFile) → AreObjectFiles made files → AreBuilt files
objects_built [] [] h = tt
objects_built [] (f ∷ fs) h = absurd h
objects_built (m ∷ ms) [] h = absurd h
objects_built (m ∷ ms) (f ∷ fs) h = (inl (m.0, h.0), objects_built ms fs h.2)

changed_built : (files : Files) (name bytes : List ℕ) → IsBuiltName name → AreBuilt (if_changed files name bytes)
changed_built files name bytes built =
    elim (is_same (finite.get files name) bytes) as (λ b. AreBuilt (if b then [] else (name, bytes) ∷ [])) [
      | true ↦ tt
      | false ↦ (built, tt)
    ]

both_built : (xs ys : List NamedFile) → AreBuilt xs → AreBuilt ys → AreBuilt (xs ++ ys)
both_built [] ys a b = b
both_built (x ∷ xs) ys a b = (a.0, both_built xs ys a.1 b)

puts_built : (files : Files) (stack : ℕ) (parts : Parts) (outcome : Outcome) → IsOutcome files stack parts outcome → AreBuilt outcome.puts
puts_built files stack parts outcome o =
    subst (λ (puts : List NamedFile). AreBuilt puts) (sym o.puts)
    (both_built o.objects (if_changed files database_name o.database ++ if_changed files image_name outcome.image)
    (objects_built (made_anew (names_of_modules files) parts.objects parts.fresh) o.objects o.object_files)
    (both_built (if_changed files database_name o.database) (if_changed files image_name outcome.image) (changed_built files database_name o.database (inr (inl refl))) (changed_built files image_name outcome.image (inr (inr refl)))))

-- ---- the files as they are seen behind a build

-- a store that holds the files as they are seen
abbrev seen_told : Told → Files → Told
seen_told told shown = record { files = shown; puts = told.puts }

abbrev pub PutsSeen : Type 0
PutsSeen = (told others : Told) (files : List NamedFile) → IsSeen told.files others.files → AreBuilt files → IsSeen (after_puts told files).files (after_puts others files).files

left_seen : PutsSeen → (told : Told) (shown : Files) (stack : ℕ) (parts : Parts) (outcome : Outcome) → IsSeen told.files shown → IsOutcome shown stack parts outcome
    → IsSeen (after_puts told outcome.puts).files (after_puts (seen_told told shown) outcome.puts).files
left_seen puts told shown stack parts outcome is o = puts told (seen_told told shown) outcome.puts is (puts_built shown stack parts outcome o)

program_seen : Beside → (parts : Parts) (stack : ℕ) (files shown : Files) → IsSeen files shown → HoldsProgram parts stack shown → HoldsProgram parts stack files
program_seen beside parts stack files shown is h = record {
  database = h.database;
  database_file = h.database_file;
  database_stands = sym (beside.database files shown is) ∙ h.database_stands;
  image = h.image;
  image_file = h.image_file;
  image_stands = sym (beside.image files shown is) ∙ h.image_stands;
}

pub program_left : Beside → PutsSeen → ((told : Told) (opts : Opts) (outcome : Outcome) → BuildOutcome told.files opts (Ok outcome) → HoldsBuild told.files opts (after_puts told outcome.puts).files)
    → (told : Told) (opts : Opts) (outcome : Outcome) → SeenOutcome told.files opts (Ok outcome) → HoldsSeenBuild told.files opts (after_puts told outcome.puts).files
program_left beside puts leaves told opts outcome (shown, is, (parts, builds, o)) =
    let left : HoldsBuild shown opts (after_puts (seen_told told shown) outcome.puts).files = leaves (seen_told told shown) opts outcome (parts, builds, o) in (
      shown,
      is,
      (
        left.0,
        left.1,
        program_seen beside left.0 opts.stack (after_puts told outcome.puts).files (after_puts (seen_told told shown) outcome.puts).files (left_seen puts told shown opts.stack parts outcome is o) left.2,
      ),
    )

pub whole_left : Beside → PutsSeen → ((files shown : Files) → IsSeen files shown → KeepsGenuine files → KeepsGenuine shown)
    → ((told : Told) (opts : Opts) (outcome : Outcome) → KeepsGenuine told.files → BuildOutcome told.files opts (Ok outcome) → HoldsFullBuild (module_map told.files) opts (after_puts told outcome.puts).files)
    → (told : Told) (opts : Opts) (outcome : Outcome) → KeepsGenuine told.files → SeenOutcome told.files opts (Ok outcome) → HoldsSeenFullBuild told.files opts (after_puts told outcome.puts).files
whole_left beside puts genuine leaves told opts outcome keeps (shown, is, (parts, builds, o)) =
    let left : HoldsFullBuild (module_map shown) opts (after_puts (seen_told told shown) outcome.puts).files = leaves (seen_told told shown) opts outcome (genuine told.files shown is keeps) (parts, builds, o) in (
      shown,
      is,
      (
        left.0,
        left.1,
        program_seen beside left.0 opts.stack (after_puts told outcome.puts).files (after_puts (seen_told told shown) outcome.puts).files (left_seen puts told shown opts.stack parts outcome is o) left.2,
      ),
    )

pub objects_left : PutsSeen
    → ((told : Told) (opts : Opts) (parts : Parts) (outcome : Outcome) → Builds (modules_of told.files) (kept_objects told.files) opts (Ok parts) → IsOutcome told.files opts.stack parts outcome → KeepsObjects told.files (after_puts told outcome.puts).files parts)
    → (told : Told) (opts : Opts) (outcome : Outcome) → SeenOutcome told.files opts (Ok outcome) → KeepsSeenObjects told.files opts (after_puts told outcome.puts).files
objects_left puts keeps told opts outcome (shown, is, (parts, builds, o)) = record {
  shown = shown;
  is_shown = is;
  left = (after_puts (seen_told told shown) outcome.puts).files;
  is_left = left_seen puts told shown opts.stack parts outcome is o;
  parts = parts;
  builds = builds;
  keeps = keeps (seen_told told shown) opts parts outcome builds o;
}

-- ---- a build behind it

pub edit_left : PutsSeen → ((files shown other : Files) → IsSeen files shown → IsSeen files other → shown ≡ other)
    → ((told : Told) (opts : Opts) (parts : Parts) (outcome : Outcome) (files : Files) → Builds (modules_of told.files) (kept_objects told.files) opts (Ok parts) → IsOutcome told.files opts.stack parts outcome → FitObjects parts.objects
    → KeepsFlows (after_puts told outcome.puts).files files → BuildOutcome files opts (Ok (unchanged outcome)))
    → (told : Told) (opts : Opts) (outcome : Outcome) (files left edited : Files) → SeenOutcome told.files opts (Ok outcome) → FitObjects outcome.linked_objects
    → IsSeen (after_puts told outcome.puts).files left → IsSeen files edited → KeepsFlows left edited → SeenOutcome files opts (Ok (unchanged outcome))
edit_left puts way nothing told opts outcome files left edited (shown, is, (parts, builds, o)) fits is_left is_edited keeps =
    let behind : Files = (after_puts (seen_told told shown) outcome.puts).files in
    let same : left ≡ behind = way (after_puts told outcome.puts).files left behind is_left (left_seen puts told shown opts.stack parts outcome is o) in
    let fit : FitObjects parts.objects = subst (λ (objects : List Object). FitObjects objects) o.linked_objects fits in
    (edited, is_edited, nothing (seen_told told shown) opts parts outcome edited builds o fit (subst (λ (f : Files). KeepsFlows f edited) same keeps))

pub again_left : PutsSeen
    → ((told : Told) (opts : Opts) (parts : Parts) (outcome : Outcome) → Builds (modules_of told.files) (kept_objects told.files) opts (Ok parts) → IsOutcome told.files opts.stack parts outcome → FitObjects parts.objects
    → BuildOutcome (after_puts told outcome.puts).files opts (Ok (unchanged outcome)))
    → (told : Told) (opts : Opts) (outcome : Outcome) → SeenOutcome told.files opts (Ok outcome) → FitObjects outcome.linked_objects → SeenOutcome (after_puts told outcome.puts).files opts (Ok (unchanged outcome))
again_left puts nothing told opts outcome (shown, is, (parts, builds, o)) fits =
    let fit : FitObjects parts.objects = subst (λ (objects : List Object). FitObjects objects) o.linked_objects fits in
    ((after_puts (seen_told told shown) outcome.puts).files, left_seen puts told shown opts.stack parts outcome is o, nothing (seen_told told shown) opts parts outcome builds o fit)

-- ---- an edit

abbrev flows_by : List (List ℕ × Phase) → Result (List FlowModule) BuildFault
flows_by [] = Ok []
flows_by (p ∷ ps) = before_others p.0 p.1 (flows_by ps)

flows_are : (sources : List Source) → flows_of sources ≡ flows_by (phases_of sources)
flows_are [] = refl
flows_are (s ∷ ss) = ap (before_others s.0 (compiled s.0 s.1)) (flows_are ss)

abbrev names_by : List (List ℕ × Phase) → List (List ℕ)
names_by phases = map (λ (p : List ℕ × Phase). p.0) phases

names_are : (sources : List Source) → map (λ (s : Source). s.0) sources ≡ names_by (phases_of sources)
names_are [] = refl
names_are (s ∷ ss) = ap (λ (ns : List (List ℕ)). s.0 ∷ ns) (names_are ss)

pub phases_keep : Beside → (old new shown edited : Files) → IsSeen old shown → IsSeen new edited → KeepsPhases old new shown edited → KeepsFlows shown edited
phases_keep beside old new shown edited is_shown is_edited keeps =
    let flows : flows_of (modules_of edited) ≡ flows_of (modules_of shown) =
    flows_are (modules_of edited) ∙ ap (λ (ps : List (List ℕ × Phase)). flows_by ps) keeps.phases ∙ sym (flows_are (modules_of shown)) in
    record {
      names = names_are (modules_of edited) ∙ ap (λ (ps : List (List ℕ × Phase)). names_by ps) keeps.phases ∙ sym (names_are (modules_of shown));
      phases = ap (λ (l : Option LinkFault). within l (flows_of (modules_of edited))) keeps.limits ∙ ap (within (limit_passed (modules_of shown))) flows;
      built = λ name is. built_seen beside new edited name is is_edited ∙ keeps.built name is ∙ sym (built_seen beside old shown name is is_shown);
    }
