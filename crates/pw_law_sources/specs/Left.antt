-- What a build leaves of the files of a store, as builds see them.
use Rattle.std.specs.Prelude.{◌≡◌, ℕ, List, map, Ok}
use Rattle.std.specs.FinMap as finite
use Rattle.pw_io.specs.Files.{Files}
use Rattle.pw_store_modules.specs.Modules.{Source, modules_of, module_map}
use Rattle.pw_store_texts.specs.Seen.{IsSeen}
use Rattle.pw_build_objects.specs.Programs.{Parts}
use Rattle.pw_build_files.specs.FromBuild.Builds.{Builds, limit_passed}
use Rattle.pw_build_files.specs.FromBuild.FirstPhase.{Phase, compiled}
use Rattle.pw_build_files.specs.Building.{kept_objects}
use Rattle.pw_build_files.specs.Genuine.{IsBuiltName}
use Rattle.pw_law_build.specs.Kept.{KeepsObjects}
use Rattle.pw_law_build.specs.Whole.{HoldsBuild, HoldsFullBuild}
use Rattle.pw_build_opts.specs.declared.opts.Opts.{Opts}

-- the database and the image of the program to which the modules and what was kept of them come stand there
abbrev pub HoldsSeenBuild : Files → Opts → Files → Type 0
HoldsSeenBuild old opts files = (shown : Files) × IsSeen old shown × HoldsBuild shown opts files

-- those of the full build of the modules' texts stand there
abbrev pub HoldsSeenFullBuild : Files → Opts → Files → Type 0
HoldsSeenFullBuild old opts files = (shown : Files) × IsSeen old shown × HoldsFullBuild (module_map shown) opts files

-- The modules that the next build sees are those that this one saw, and the objects of its program are kept of them.
pub record KeepsSeenObjects (old : Files) (opts : Opts) (new : Files) : Type 0 where
  pub shown : Files
  pub is_shown : IsSeen old shown
  pub left : Files
  pub is_left : IsSeen new left
  pub parts : Parts
  pub builds : Builds (modules_of shown) (kept_objects shown) opts (Ok parts)
  pub keeps : KeepsObjects shown left parts

-- ---- what an edit leaves

-- modules by their names, and what the first phase makes of each
abbrev pub phases_of : List Source → List (List ℕ × Phase)
phases_of sources = map (λ source. (source.0, compiled source.0 source.1)) sources

-- The files of builds are as they were, and of the modules as a build sees them the first phase makes what it made.
pub record KeepsPhases (old new shown edited : Files) : Type 0 where
  pub built : (name : List ℕ) → IsBuiltName name → finite.get new name ≡ finite.get old name
  pub phases : phases_of (modules_of edited) ≡ phases_of (modules_of shown)
  pub limits : limit_passed (modules_of edited) ≡ limit_passed (modules_of shown)
