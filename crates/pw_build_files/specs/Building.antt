-- What a build comes to over the files of a store: its report, and the files that it puts.
use Rattle.std.specs.Prelude.{◌≡◌, ℕ, if◌then◌else◌, List, [], ◌∷◌, ◌++◌, length, map, Option, Result, Ok, Err}
use Rattle.std.specs.FinMap as finite
use Rattle.pw_io.specs.Files.{Files}
use Rattle.pw_db_file.specs.Spelling.{IsNewFile}
use Rattle.pw_object.specs.declared.object.Object.{Object}
use Rattle.pw_image.specs.Image.{IsImageFile}
use Rattle.pw_link.specs.Linking.{linked}
use Rattle.pw_store_modules.specs.FileNames.{database_name, image_name}
use Rattle.pw_store_modules.specs.Modules.{modules_of, names_of_modules}
use Rattle.pw_top_answer.specs.Effects.{NamedFile}
use Rattle.pw_build_objects.specs.Programs.{Parts}
use Rattle.pw_build_files.specs.FromBuild.BuildFault.{BuildFault}
use Rattle.pw_build_files.specs.FromBuild.Builds.{Builds}
use Rattle.pw_store_kept.specs.Kept.{is_same}
pub use Rattle.pw_store_kept.specs.Kept.{counted, kept_object, object_in}
use Rattle.pw_store_kept.specs.Files.{AreObjectFiles, HoldBytes, made_anew}
use Rattle.pw_build_opts.specs.declared.opts.Opts.{Opts}

-- the objects that are kept of all modules, in their order
abbrev pub kept_objects : Files → List (Option Object)
kept_objects files = map (kept_object files) (names_of_modules files)

-- a file is put only where its bytes differ from those that stand there
abbrev pub if_changed : Files → List ℕ → List ℕ → List NamedFile
if_changed files name bytes = if is_same (finite.get files name) bytes then [] else (name, bytes) ∷ []

-- ---- the build

-- what a build comes to: how many modules there are, the names of those whose objects are made anew, the bytes of the
-- image, the files that are put, in order, and the objects that are linked
pub record Outcome : Type 0 where
  pub modules : ℕ
  pub rebuilt : List (List ℕ)
  pub image : List ℕ
  pub puts : List NamedFile
  pub linked_objects : List Object

-- The objects that are made anew are put, then the database and the image, each of the two where its bytes differ from
-- those that stand there.
pub record IsOutcome (files : Files) (stack : ℕ) (parts : Parts) (outcome : Outcome) : Type 0 where
  pub modules : outcome.modules ≡ length (names_of_modules files)
  pub rebuilt : outcome.rebuilt ≡ map (λ made. made.0) (made_anew (names_of_modules files) parts.objects parts.fresh)
  pub objects : List NamedFile
  pub object_files : AreObjectFiles (made_anew (names_of_modules files) parts.objects parts.fresh) objects
  pub object_bytes : HoldBytes objects
  pub database : List ℕ
  pub database_file : IsNewFile database parts.database
  pub image_names : List (List ℕ)
  pub image_file : IsImageFile outcome.image (record { names = image_names; value = linked parts.objects stack })
  pub linked_objects : outcome.linked_objects ≡ parts.objects
  pub puts : outcome.puts ≡ objects ++ (if_changed files database_name database ++ if_changed files image_name outcome.image)

-- A build over the files of a store, for so many registers and such a stack, comes to this: its modules and the objects
-- that are kept of them come to parts of a program and these to the outcome; or to a fault, and nothing is put.
abbrev pub BuildOutcome : Files → Opts → Result Outcome BuildFault → Type 0
BuildOutcome files opts (Ok outcome) = (parts : Parts) × Builds (modules_of files) (kept_objects files) opts (Ok parts) × IsOutcome files opts.stack parts outcome
BuildOutcome files opts (Err fault) = Builds (modules_of files) (kept_objects files) opts (Err fault)

-- the files that are put
abbrev pub puts_of : Result Outcome BuildFault → List NamedFile
puts_of (Ok outcome) = outcome.puts
puts_of (Err fault) = []
