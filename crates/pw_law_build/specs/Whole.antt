-- The program of a full build, as it stands in the files of a store.
use Rattle.std.specs.Prelude.{◌≡◌, ℕ, List, Some, Ok}
use Rattle.std.specs.FinMap as finite
use Rattle.pw_io.specs.Files.{Files}
use Rattle.pw_db_file.specs.Spelling.{IsNewFile}
use Rattle.pw_store_modules.specs.FileNames.{database_name, image_name}
use Rattle.pw_build_objects.specs.Programs.{Parts}
use Rattle.pw_store_modules.specs.Modules.{Texts, modules_of}
use Rattle.pw_build_files.specs.FromBuild.Builds.{Builds, FullBuild}
use Rattle.pw_build_files.specs.Building.{kept_objects}
use Rattle.pw_commands.specs.Linking.{IsImageOf}
use Rattle.pw_build_opts.specs.declared.opts.Opts.{Opts}

-- exactly these bytes stand under the name
abbrev pub HoldsFile : Files → List ℕ → List ℕ → Type 0
HoldsFile files name bytes = finite.get files name ≡ Some bytes

-- the database and the image of a program's parts stand in their files
pub record HoldsProgram (parts : Parts) (stack : ℕ) (files : Files) : Type 0 where
  pub database : List ℕ
  pub database_file : IsNewFile database parts.database
  pub database_stands : HoldsFile files database_name database
  pub image : List ℕ
  pub image_file : IsImageOf parts.objects stack image
  pub image_stands : HoldsFile files image_name image

-- those to which the modules and the kept objects of a store's files come stand there
abbrev pub HoldsBuild : Files → Opts → Files → Type 0
HoldsBuild old opts files = (parts : Parts) × Builds (modules_of old) (kept_objects old) opts (Ok parts) × HoldsProgram parts opts.stack files

-- those of the full build of texts stand there
abbrev pub HoldsFullBuild : Texts → Opts → Files → Type 0
HoldsFullBuild texts opts files = (parts : Parts) × FullBuild texts opts (Ok parts) × HoldsProgram parts opts.stack files
