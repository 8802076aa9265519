-- What a build comes to as far as its puts.
use Rattle.std.proofs.Common.{◌≡◌, ◌⊎◌, inl, inr, arith, ℕ, Bool, true, false, not, cond, List, [], ◌∷◌, ◌++◌, length, map, Option, Some, None, Result, Ok, Err, refl, sym, ap, ◌∙◌, subst}
use Rattle.std.specs.Prelude.{IfErr, IfSome}
use Rattle.std.proofs.lemmas.List.{length-map}
use Rattle.std.specs.FinMap as finite
use Rattle.pw_io.specs.Files.{Files, Told, Keeps}
use Rattle.pw_io.specs.declared.StoreError.{StoreError}
use Rattle.pw_io.specs.declared.StoreError.TheVariants as store
use Rattle.pw_db_file.specs.Spelling.{IsNewFile}
use Rattle.pw_object.specs.declared.object.Object.{Object}
use Rattle.pw_image.specs.Image.{IsImageFile}
use Rattle.pw_link.specs.Linking.{linked}
use Rattle.pw_store_modules.specs.FileNames.{database_name, image_name}
use Rattle.pw_store_modules.specs.declared.modules.Module.{Module}
use Rattle.pw_store_modules.specs.Modules.{Source, modules_of, names_of_modules}
use Rattle.pw_store_modules.specs.Views.{source}
use Rattle.pw_top_answer.specs.Effects.{NamedFile}
use Rattle.pw_flow.specs.declared.flow.FlowModule.{FlowModule}
use Rattle.pw_build_files.specs.FromBuild.BuildFault.{BuildFault}
use Rattle.pw_build_files.specs.FromBuild.BuildFault.TheVariants as build
use Rattle.pw_build_files.specs.FromBuild.Unbuilt.{Unbuilt}
use Rattle.pw_build_files.specs.FromBuild.Builds.{Builds, BuildsBy, first_phases}
use Rattle.pw_build_files.specs.FromBuild.Phases.{IsLine, refused_line}
use Rattle.pw_build_files.specs.FromBuild.Stores.{store_fault}
use Rattle.pw_build_opts.specs.declared.opts.Opts.{Opts}
use Rattle.pw_store_kept.specs.declared.files.ProgramFiles.{ProgramFiles}
use Rattle.pw_store_kept.specs.declared.prepared.Prepared.{Prepared}
use Rattle.pw_store_kept.specs.Kept.{is_same, kept_object}
use Rattle.pw_store_kept.specs.Files.{AreObjectFiles, HoldBytes, IsCompared, file_view, made_anew, one_if}
use Rattle.pw_build_files.specs.Building.{BuildOutcome, if_changed, kept_objects}
use Rattle.pw_build_files.specs.Programs.{BuildsFiles, FaultBuilds}
use Rattle.pw_build_files.specs.Seen.{SeesFault}
use Rattle.pw_store_texts.specs.Seen.{IsSeen}
use Rattle.pw_build_files.proofs.SeenLemmas.{Beside, compared_shown, kept_shown}
use Rattle.pw_build_files.proofs.ProgramLemmas.{names_by, no_line, stored}
use Rattle.pw_build_objects.specs.Counting.{CountsUpTo}
use Rattle.pw_build_files.specs.Outcomes.{CountsAtMost, CountsSeen, FaultBuilt, FaultFound, IsNoWant, IsOfStore, outcome_of}

-- ---- the names of modules

pub names_are : (ms : List Module) (files : Files) → map source ms ≡ modules_of files → map (λ m. m.name) ms ≡ names_of_modules files
names_are ms files e = sym (names_by ms) ∙ ap (map (λ s. s.0)) e

kept_by : (files : Files) (ms : List Module) → map (λ m. kept_object files m.name) ms ≡ map (kept_object files) (map (λ m. m.name) ms)
kept_by files [] = refl
kept_by files (m ∷ ms) = ap (λ (zs : List (Option Object)). kept_object files m.name ∷ zs) (kept_by files ms)

pub kept_are : (ms : List Module) (files : Files) → map source ms ≡ modules_of files → map (λ m. kept_object files m.name) ms ≡ kept_objects files
kept_are ms files e = kept_by files ms ∙ ap (map (kept_object files)) (names_are ms files e)

-- ---- a build as far as its puts

one_if_changed : (same changed : Bool) (name bytes : List ℕ) → changed ≡ not same → one_if changed name bytes ≡ cond same [] ((name, bytes) ∷ [])
one_if_changed true changed name bytes e = ap (λ (b : Bool). one_if b name bytes) e
one_if_changed false changed name bytes e = ap (λ (b : Bool). one_if b name bytes) e

comes_told : (files : Files) (opts : Opts) (ms : List Module) (made : ProgramFiles) (p : Prepared) (objects : List Object) (count : ℕ) → map source ms ≡ modules_of files
    → BuildsFiles (map source ms) (map (λ m. kept_object files m.name) ms) opts made objects → HoldBytes (map file_view made.fresh.files.items) → count ≡ length ms → IsCompared files count made p → BuildOutcome files opts (Ok (outcome_of p objects))
comes_told files opts ms made p objects count sources builds fits few cmp =
    let parts = builds.0 in
    let m = builds.2 in
    let names : map (λ s. s.0) (map source ms) ≡ names_of_modules files = ap (map (λ s. s.0)) sources in
    let anew : List (List ℕ) → List (List ℕ × Object) = λ ns. made_anew ns parts.objects parts.fresh in (
      parts,
      subst (λ (s : List Source). Builds s (kept_objects files) opts (Ok parts)) sources
          (subst (λ (k : List (Option Object)). Builds (map source ms) k opts (Ok parts)) (kept_are ms files sources) builds.1),
      record {
        modules = cmp.modules ∙ few ∙ sym (length-map ms source) ∙ ap length sources ∙ sym (length-map (modules_of files) (λ s. s.0));
        rebuilt = cmp.rebuilt ∙ m.rebuilt ∙ ap (λ (ns : List (List ℕ)). map (λ x. x.0) (anew ns)) names;
        objects = map file_view p.objects.items;
        object_files = subst (λ (ns : List (List ℕ)). AreObjectFiles (anew ns) (map file_view p.objects.items)) names
            (subst (λ fs. AreObjectFiles (anew (map (λ s. s.0) (map source ms))) (map file_view fs)) (sym cmp.objects) m.objects);
        object_bytes = subst (λ fs. HoldBytes (map file_view fs)) (sym cmp.objects) fits;
        database = p.database.items;
        database_file = subst (λ (b : List ℕ). IsNewFile b parts.database) (sym cmp.database) m.database;
        image_names = m.image_names;
        image_file = subst (λ (b : List ℕ). IsImageFile b (record { names = m.image_names; value = linked parts.objects opts.stack })) (sym cmp.image) m.image;
        linked_objects = builds.3;
        puts = ap (λ (fs : List NamedFile). map file_view p.objects.items ++ fs)
            (ap (λ (fs : List NamedFile). fs ++ one_if p.image_changed image_name p.image.items)
            (one_if_changed (is_same (finite.get files database_name) p.database.items) p.database_changed database_name p.database.items
            (cmp.database_changed ∙ ap (λ (b : List ℕ). not (is_same (finite.get files database_name) b)) (sym cmp.database)))
            ∙ ap (λ (fs : List NamedFile). if_changed files database_name p.database.items ++ fs)
            (one_if_changed (is_same (finite.get files image_name) p.image.items) p.image_changed image_name p.image.items
            (cmp.image_changed ∙ ap (λ (b : List ℕ). not (is_same (finite.get files image_name) b)) (sym cmp.image))));
      },
    )

pub comes_prepared : Beside → (opts : Opts) (first now : Option Told) (ms : List Module) (made : ProgramFiles) (p : Prepared) (objects : List Object) (count : ℕ) → IfSome first (λ told. BuildsFiles (map source ms) (map (λ m. kept_object told.files m.name) ms) opts made objects) → HoldBytes (map file_view made.fresh.files.items) → Keeps first now → count ≡ length ms
    → IfSome now (λ told. IsCompared told.files count made p) → IfSome first (λ told. (shown : Files) → IsSeen told.files shown → map source ms ≡ modules_of shown → BuildOutcome shown opts (Ok (outcome_of p objects)))
comes_prepared beside opts None now ms made p objects count builds fits same few cmp = tt
comes_prepared beside opts (Some told) now ms made p objects count builds fits same few cmp = λ shown is sources.
    let Q : Option Told → Type 0 = λ o. IfSome o (λ t. IsCompared t.files count made p) in
    let R : List (Option Object) → Type 0 = λ ks. BuildsFiles (map source ms) ks opts made objects in
    comes_told shown opts ms made p objects count sources (subst R (kept_shown beside told.files shown is ms) builds) fits few (compared_shown beside told.files shown is count made p (subst Q same cmp))

-- ---- faults

early_told : (files : Files) (opts : Opts) (fault : BuildFault) → SeesFault files fault → FaultFound files opts fault
early_told files opts build.StoreFault h = tt
early_told files opts build.NoMemory h = tt
early_told files opts (build.Refused name refusal) h = (h.0, h.1, subst (λ (r : Result (List FlowModule) BuildFault). BuildsBy r (kept_objects h.0) opts (Err (build.Refused name refusal))) (sym h.2) refl)
early_told files opts (build.LinkRefused fault) h = (h.0, h.1, subst (λ (r : Result (List FlowModule) BuildFault). BuildsBy r (kept_objects h.0) opts (Err (build.LinkRefused fault))) (sym h.2) refl)

pub found_early : (opts : Opts) (first : Option Told) (fault : BuildFault) → IfSome first (λ told. SeesFault told.files fault) → IfSome first (λ told. FaultFound told.files opts fault)
found_early opts None fault h = tt
found_early opts (Some told) fault h = early_told told.files opts fault h

late_told : (shown : Files) (opts : Opts) (ms : List Module) (fault : BuildFault) → map source ms ≡ modules_of shown → FaultBuilds (map source ms) (map (λ m. kept_object shown m.name) ms) opts fault → FaultBuilt shown opts fault
late_told shown opts ms fault sources h =
    by_fault fault (subst (λ (s : List Source). FaultBuilds s (kept_objects shown) opts fault) sources (subst (λ (k : List (Option Object)). FaultBuilds (map source ms) k opts fault) (kept_are ms shown sources) h))
  where
    by_fault : (f : BuildFault) → FaultBuilds (modules_of shown) (kept_objects shown) opts f → FaultBuilt shown opts f
    by_fault build.StoreFault h = tt
    by_fault build.NoMemory h = tt
    by_fault (build.Refused name refusal) h = h
    by_fault (build.LinkRefused fault) h = h

pub found_late : Beside → (opts : Opts) (first : Option Told) (ms : List Module) (fault : BuildFault)
    → IfSome first (λ told. FaultBuilds (map source ms) (map (λ m. kept_object told.files m.name) ms) opts fault) → IfSome first (λ told. (shown : Files) → IsSeen told.files shown → map source ms ≡ modules_of shown → FaultBuilt shown opts fault)
found_late beside opts None ms fault h = tt
found_late beside opts (Some told) ms fault h = λ shown is sources.
    let R : List (Option Object) → Type 0 = λ ks. FaultBuilds (map source ms) ks opts fault in
    late_told shown opts ms fault sources (subst R (kept_shown beside told.files shown is ms) h)

pub line_early : (first : Option Told) (unbuilt : Unbuilt) → ((due : Option ℕ) → IsLine due unbuilt.fault unbuilt.line) → IfSome first (λ told. (shown : Files) → IsSeen told.files shown → IsLine (refused_line (modules_of shown)) unbuilt.fault unbuilt.line)
line_early None unbuilt h = tt
line_early (Some told) unbuilt h = λ shown is. h (refused_line (modules_of shown))

-- a fault of the store, or want of memory, in place of whatever was wanted
nothing_built : (shown : Files) (opts : Opts) (fault : BuildFault) → (fault ≡ build.StoreFault) ⊎ (fault ≡ build.NoMemory) → FaultBuilt shown opts fault
nothing_built shown opts fault (inl e) = subst (λ (f : BuildFault). FaultBuilt shown opts f) (sym e) tt
nothing_built shown opts fault (inr e) = subst (λ (f : BuildFault). FaultBuilt shown opts f) (sym e) tt

pub found_none : (opts : Opts) (first : Option Told) (ms : List Module) (error : StoreError) (fault : BuildFault) → fault ≡ store_fault error
    → IfSome first (λ told. (shown : Files) → IsSeen told.files shown → map source ms ≡ modules_of shown → FaultBuilt shown opts fault)
found_none opts None ms error fault e = tt
found_none opts (Some told) ms error fault e = λ shown is sources. nothing_built shown opts fault (stored error fault e)

pub line_none : (due : Option ℕ) (error : StoreError) (fault : BuildFault) (line : Option ℕ) → fault ≡ store_fault error → IsLine due fault line
line_none due error fault line e = no_line due fault line (stored error fault e)

-- ---- a refusal is none for want of memory

pub stored_no_want : (error : StoreError) (fault : BuildFault) → fault ≡ store_fault error → IsNoWant fault
stored_no_want store.Failed fault e = subst IsNoWant (sym e) tt
stored_no_want store.NoMemory fault e = subst IsNoWant (sym e) tt

pub of_store_no_want : {T : Type 0} (result : Result T Unbuilt) → IfErr result (λ unbuilt. IsOfStore unbuilt.fault) → IfErr result (λ unbuilt. IsNoWant unbuilt.fault)
of_store_no_want (Ok value) h = tt
of_store_no_want (Err unbuilt) h = by_fault unbuilt.fault h
  where
    by_fault : (fault : BuildFault) → IsOfStore fault → IsNoWant fault
    by_fault build.StoreFault h = tt
    by_fault build.NoMemory h = tt
    by_fault (build.Refused name refusal) h = absurd h
    by_fault (build.LinkRefused fault) h = absurd h

-- ---- at most how many are counted

nothing_counted : (phases : Result (List FlowModule) BuildFault) (n : ℕ) → CountsAtMost phases n n
nothing_counted (Err fault) n = refl
nothing_counted (Ok flows) n = record { least = omega arith; bound = omega arith }

pub none_counted : (first : Option Told) (n : ℕ) → IfSome first (λ told. CountsSeen told.files n n)
none_counted None n = tt
none_counted (Some told) n = λ shown is. nothing_counted (first_phases (modules_of shown)) n

pub none_more : (most n : ℕ) → CountsUpTo most n n
none_more most n = record { least = omega arith; bound = omega arith }
