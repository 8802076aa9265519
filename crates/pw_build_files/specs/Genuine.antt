-- Kept objects that the second phase made.
use Rattle.std.specs.Prelude.{◌≡◌, ℕ, ◌⊎◌, List, Option, Some, IsSomeAnd, true}
use Rattle.std.specs.FinMap as finite
use Rattle.pw_io.specs.Files.{Files, Told}
use Rattle.pw_fields.specs.FieldLaws.{AreBytes}
use Rattle.pw_object.specs.declared.object.Object.{Object}
use Rattle.pw_object.specs.Object.{IsObjectFile}
use Rattle.pw_store_modules.specs.FileNames.{database_name, image_name, object_name}
use Rattle.pw_store_modules.specs.Modules.{is_module_name}
use Rattle.pw_top_answer.specs.Effects.{NamedFile}
use Rattle.pw_build_objects.specs.Kept.{IsGenuine}
use Rattle.pw_store_kept.specs.Kept.{kept_object}

-- Each file of an object that stands there under a module's name is that of what the second phase makes of the flow graph
-- and the directives that stand in it.
abbrev pub KeepsGenuine : Files → Type 0
KeepsGenuine files = (name : List ℕ) (object : Object) → is_module_name name ≡ true → kept_object files name ≡ Some object → IsGenuine object

-- the name is that of an object's file, the database's or the image's
abbrev pub IsBuiltName : List ℕ → Type 0
IsBuiltName name = ((module_name : List ℕ) × (name ≡ object_name module_name)) ⊎ (name ≡ database_name) ⊎ (name ≡ image_name)

-- files of other names are as they were
abbrev pub LeavesOthers : Told → Option Told → Type 0
LeavesOthers told new = IsSomeAnd new (λ left. (name : List ℕ) → ¬ IsBuiltName name → finite.get left.files name ≡ finite.get told.files name)

-- ---- files that are put

-- the file is that of a genuine object, or no object's by its name
abbrev pub IsGenuineFile : NamedFile → Type 0
IsGenuineFile file = (name : List ℕ) → object_name name ≡ file.0 → (object : Object) × AreBytes file.1 × IsObjectFile file.1 object × IsGenuine object

-- a file that a build puts
abbrev pub IsOwnFile : NamedFile → Type 0
IsOwnFile file = IsBuiltName file.0 × IsGenuineFile file
