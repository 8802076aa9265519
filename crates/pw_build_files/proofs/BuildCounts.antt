-- How many objects are counted where a build answers a fault.
use Rattle.std.proofs.Common.{◌≡◌, ◌⊎◌, inl, inr, arith, ℕ, List, map, Option, Some, None, Result, Ok, Err, refl, sym, subst}
use Rattle.std.specs.Prelude.{IfErr, IfSome}
use Rattle.pw_io.specs.Files.{Files, Told}
use Rattle.pw_io.specs.declared.StoreError.{StoreError}
use Rattle.pw_object.specs.declared.object.Object.{Object}
use Rattle.pw_flow.specs.declared.flow.FlowModule.{FlowModule}
use Rattle.pw_store_modules.specs.declared.modules.Module.{Module}
use Rattle.pw_store_modules.specs.Modules.{Source, modules_of}
use Rattle.pw_store_modules.specs.Views.{source}
use Rattle.pw_build_files.specs.FromBuild.BuildFault.{BuildFault}
use Rattle.pw_build_files.specs.FromBuild.BuildFault.TheVariants as build
use Rattle.pw_build_files.specs.FromBuild.Unbuilt.{Unbuilt}
use Rattle.pw_build_files.specs.FromBuild.Builds.{MakesBy, first_phases}
use Rattle.pw_build_files.specs.FromBuild.Stores.{store_fault}
use Rattle.pw_build_files.specs.Programs.{IsCounted}
use Rattle.pw_build_files.specs.Seen.{SeesFault}
use Rattle.pw_store_texts.specs.Seen.{IsSeen}
use Rattle.pw_build_files.proofs.ProgramLemmas.{stored}
use Rattle.pw_store_kept.specs.Kept.{kept_object}
use Rattle.pw_build_opts.specs.declared.opts.Opts.{Opts}
use Rattle.pw_build_files.specs.declared.report.Report.{Report}
use Rattle.pw_build_files.specs.Building.{kept_objects}
use Rattle.pw_build_files.specs.Outcomes.{CountsBuilt, CountsFound, IsOfStore}
use Rattle.pw_build_files.proofs.FileLemmas.{kept_are}
use Rattle.pw_build_files.proofs.SeenLemmas.{Beside, OneWay, every_shown, kept_shown}

-- the modules are those of files that are seen
late_told : (shown : Files) (opts : Opts) (ms : List Module) (fault : BuildFault) (before now : ℕ) → map source ms ≡ modules_of shown → IsCounted (map source ms) (map (λ m. kept_object shown m.name) ms) opts fault before now → CountsBuilt shown opts fault before now
late_told shown opts ms fault before now sources h =
    subst (λ (s : List Source). IsCounted s (kept_objects shown) opts fault before now) sources
    (subst (λ (k : List (Option Object)). IsCounted (map source ms) k opts fault before now) (kept_are ms shown sources) h)

pub counted_late : Beside → (opts : Opts) (first : Option Told) (ms : List Module) (fault : BuildFault) (before now : ℕ) → IfSome first (λ told. IsCounted (map source ms) (map (λ m. kept_object told.files m.name) ms) opts fault before now)
    → IfSome first (λ told. (shown : Files) → IsSeen told.files shown → map source ms ≡ modules_of shown → CountsBuilt shown opts fault before now)
counted_late beside opts None ms fault before now h = tt
counted_late beside opts (Some told) ms fault before now h = λ shown is sources.
    let R : List (Option Object) → Type 0 = λ ks. IsCounted (map source ms) ks opts fault before now in
    late_told shown opts ms fault before now sources (subst R (kept_shown beside told.files shown is ms) h)

-- none, where there are too many modules
none_made : (shown : Files) (opts : Opts) (fault : BuildFault) → first_phases (modules_of shown) ≡ Err fault → MakesBy (first_phases (modules_of shown)) (kept_objects shown) opts 0
none_made shown opts fault e = subst (λ (r : Result (List FlowModule) BuildFault). MakesBy r (kept_objects shown) opts 0) (sym e) refl

early_told : OneWay → (files : Files) (opts : Opts) (fault : BuildFault) (n : ℕ) → SeesFault files fault → CountsFound files opts fault n n
early_told way files opts build.StoreFault n h = λ shown is. tt
early_told way files opts build.NoMemory n h = λ shown is. tt
early_told way files opts (build.Refused name refusal) n h =
    λ shown is. every_shown way files (λ f. CountsBuilt f opts (build.Refused name refusal) n n) h.0 h.1 (0, none_made h.0 opts (build.Refused name refusal) h.2, omega arith) shown is
early_told way files opts (build.LinkRefused fault) n h =
    λ shown is. every_shown way files (λ f. CountsBuilt f opts (build.LinkRefused fault) n n) h.0 h.1 (0, none_made h.0 opts (build.LinkRefused fault) h.2, omega arith) shown is

pub counted_early : OneWay → (opts : Opts) (first : Option Told) (fault : BuildFault) (n : ℕ) → IfSome first (λ told. SeesFault told.files fault) → IfSome first (λ told. CountsFound told.files opts fault n n)
counted_early way opts None fault n h = tt
counted_early way opts (Some told) fault n h = early_told way told.files opts fault n h

-- a fault of the store, or want of memory
of_store_told : (files : Files) (opts : Opts) (fault : BuildFault) (before now : ℕ) → IsOfStore fault → CountsFound files opts fault before now
of_store_told files opts build.StoreFault before now h = λ shown is. tt
of_store_told files opts build.NoMemory before now h = λ shown is. tt
of_store_told files opts (build.Refused name refusal) before now h = absurd h
of_store_told files opts (build.LinkRefused fault) before now h = absurd h

either_built : (shown : Files) (opts : Opts) (fault : BuildFault) (before now : ℕ) → (fault ≡ build.StoreFault) ⊎ (fault ≡ build.NoMemory) → CountsBuilt shown opts fault before now
either_built shown opts fault before now (inl e) = subst (λ (f : BuildFault). CountsBuilt shown opts f before now) (sym e) tt
either_built shown opts fault before now (inr e) = subst (λ (f : BuildFault). CountsBuilt shown opts f before now) (sym e) tt

pub counted_none : (opts : Opts) (first : Option Told) (ms : List Module) (error : StoreError) (fault : BuildFault) (before now : ℕ) → fault ≡ store_fault error
    → IfSome first (λ told. (shown : Files) → IsSeen told.files shown → map source ms ≡ modules_of shown → CountsBuilt shown opts fault before now)
counted_none opts None ms error fault before now e = tt
counted_none opts (Some told) ms error fault before now e = λ shown is sources. either_built shown opts fault before now (stored error fault e)

-- the files were being put
pub counted_putting : (opts : Opts) (first : Option Told) (result : Result Report Unbuilt) (before now : ℕ) → IfErr result (λ unbuilt. IsOfStore unbuilt.fault) → IfSome first (λ told. IfErr result (λ unbuilt. CountsFound told.files opts unbuilt.fault before now))
counted_putting opts None result before now h = tt
counted_putting opts (Some told) (Ok report) before now h = tt
counted_putting opts (Some told) (Err unbuilt) before now h = of_store_told told.files opts unbuilt.fault before now h
