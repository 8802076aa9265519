-- The files of a program that was built, and which of them are put.
use Rattle.std.specs.Prelude.{◌≡◌, ℕ, Bool, true, false, not, if◌then◌else◌, List, [], ◌∷◌, ◌++◌, map, Result, Ok, Err, String, Vec, string_bytes}
use Rattle.std.specs.List.{AllByRecursion}
use Rattle.std.specs.FinMap as finite
use Rattle.std.specs.declared.alloc.Global.{Global}
use Rattle.pw_io.specs.Files.{Files}
use Rattle.pw_io.specs.declared.StoreError.{StoreError}
use Rattle.pw_fields.specs.FieldLaws.{AreBytes}
use Rattle.pw_object.specs.declared.object.Object.{Object}
use Rattle.pw_object.specs.Object.{IsObjectFile}
use Rattle.pw_store_modules.specs.FileNames.{database_name, image_name, object_name}
use Rattle.pw_top_answer.specs.declared.answer.Answer.{Answer}
use Rattle.pw_top_answer.specs.declared.answer.Answer.TheVariants as answer
use Rattle.pw_top_answer.specs.Effects.{NamedFile}
use Rattle.pw_top_answer.specs.Outcomes.{store_answer}
use Rattle.pw_store_kept.specs.declared.files.ProgramFiles.{ProgramFiles}
use Rattle.pw_store_kept.specs.declared.prepared.Prepared.{Prepared}
use Rattle.pw_store_kept.specs.Kept.{is_same}

-- ---- the objects

-- the objects that are made anew, each with its module's name
abbrev pub made_anew : List (List ℕ) → List Object → List Bool → List (List ℕ × Object)
made_anew (name ∷ names) (object ∷ objects) (fresh ∷ more) =
    if fresh then (name, object) ∷ made_anew names objects more else made_anew names objects more
made_anew names objects fresh = []

-- the files of objects, in their order
abbrev pub AreObjectFiles : List (List ℕ × Object) → List NamedFile → Type 0
AreObjectFiles [] [] = Unit {0}
AreObjectFiles [] (file ∷ files) = ⊥
AreObjectFiles (made ∷ more) [] = ⊥
AreObjectFiles (made ∷ more) (file ∷ files) = (file.0 ≡ object_name made.0) × IsObjectFile file.1 made.1 × AreObjectFiles more files

-- ---- the files that are put

-- a file with its name
abbrev pub file_view : String Global × Vec ℕ Global → NamedFile
file_view file = (string_bytes file.0, file.1.items)

-- what stands in the files are bytes
abbrev pub HoldBytes : List NamedFile → Type 0
HoldBytes files = AllByRecursion (λ file. AreBytes file.1) files

-- the files of a program beside what the store keeps
pub record IsCompared (files : Files) (count : ℕ) (made : ProgramFiles) (p : Prepared) : Type 0 where
  pub modules : p.modules ≡ count
  pub rebuilt : p.rebuilt.items ≡ made.fresh.names.items
  pub objects : p.objects.items ≡ made.fresh.files.items
  pub database : p.database.items ≡ made.database.items
  pub database_changed : p.database_changed ≡ not (is_same (finite.get files database_name) made.database.items)
  pub image : p.image.items ≡ made.image.items
  pub image_changed : p.image_changed ≡ not (is_same (finite.get files image_name) made.image.items)

abbrev pub one_if : Bool → List ℕ → List ℕ → List NamedFile
one_if true name bytes = (name, bytes) ∷ []
one_if false name bytes = []

-- the database and the image, each if it changed
abbrev pub program_files : Prepared → List NamedFile
program_files p = one_if p.database_changed database_name p.database.items ++ one_if p.image_changed image_name p.image.items

-- the files that are put: the objects that are made anew, then the database and the image, each if it changed
abbrev pub changed_files : Prepared → List NamedFile
changed_files p = map file_view p.objects.items ++ program_files p

-- a put, as an answer of the program
abbrev pub put_answer : Result (Unit {0}) StoreError → Answer
put_answer (Ok u) = answer.Done
put_answer (Err error) = store_answer error
