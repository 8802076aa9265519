-- What is kept behind a build, and what a build over that comes to.
use Rattle.std.specs.Prelude.{◌≡◌, ℕ, ◌≤◌, List, [], length, map, Some}
use Rattle.std.specs.List.{AllByRecursion}
use Rattle.std.specs.FinMap as finite
use Rattle.pw_io.specs.Files.{Files}
use Rattle.pw_value.specs.Limits.{kept_limit}
use Rattle.pw_object.specs.declared.object.Object.{Object}
use Rattle.pw_object.specs.Object.{IsObjectFile}
use Rattle.pw_store_modules.specs.Modules.{modules_of, names_of_modules}
use Rattle.pw_build_objects.specs.Programs.{Parts}
use Rattle.pw_build_files.specs.FromBuild.Builds.{first_phases}
use Rattle.pw_build_files.specs.Building.{Outcome, kept_objects}
use Rattle.pw_build_files.specs.Genuine.{IsBuiltName}

-- ---- what kept files can hold

-- all of a kept file's bytes count
abbrev pub FitsKept : List ℕ → Type 0
FitsKept bytes = length bytes ≤ kept_limit

-- those of the files of these objects do
abbrev pub FitObjects : List Object → Type 0
FitObjects objects = AllByRecursion (λ object. (bytes : List ℕ) → IsObjectFile bytes object → FitsKept bytes) objects

-- ---- what is left

-- The modules are as before, and the objects of these parts are kept of them.
pub record KeepsObjects (old new : Files) (parts : Parts) : Type 0 where
  pub modules : modules_of new ≡ modules_of old
  pub objects : FitObjects parts.objects → kept_objects new ≡ map (λ object. Some object) parts.objects

-- the same program, of which nothing is made anew and nothing is put
abbrev pub unchanged : Outcome → Outcome
unchanged outcome = record { modules = outcome.modules; rebuilt = []; image = outcome.image; puts = []; linked_objects = outcome.linked_objects }

-- ---- what an edit leaves

-- The modules have the names that they had, the first phase makes of them what it made, and the files of builds are as they
-- were. So it is where texts changed and flow graphs did not.
pub record KeepsFlows (old new : Files) : Type 0 where
  pub names : names_of_modules new ≡ names_of_modules old
  pub phases : first_phases (modules_of new) ≡ first_phases (modules_of old)
  pub built : (name : List ℕ) → IsBuiltName name → finite.get new name ≡ finite.get old name
