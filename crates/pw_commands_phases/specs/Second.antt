-- What `phase2` comes to: the object of a module under the directives that the database has for it.
use Rattle.std.specs.Prelude.{◌≡◌, ℕ, ◌⊎◌, List, [], ◌∷◌, Option, Some, Result, Ok, Err}
use Rattle.pw_io.specs.Files.{Files, Told}
use Rattle.pw_fields.specs.FieldLaws.{AreBytes}
use Rattle.pw_files.specs.Contents.{value_of}
use Rattle.pw_flow.specs.declared.flow.FlowModule.{FlowModule}
use Rattle.pw_flowfile.specs.Reading.{flow_file_at}
use Rattle.pw_db.specs.declared.database.Directives.{Directives}
use Rattle.pw_db.specs.Database.{IsDatabase}
use Rattle.pw_object.specs.declared.object.Object.{Object}
use Rattle.pw_object.specs.Object.{IsObjectFile}
use Rattle.pw_phase_two.specs.Phases.{AreDirectivesIn, AreDirectivesOf, IsObjectOf}
use Rattle.pw_store_modules.specs.FileNames.{database_name, flow_name, object_name}
use Rattle.pw_top_answer.specs.declared.answer.Answer.{Answer}
use Rattle.pw_top_answer.specs.Effects.{Effect, PutPart, answers_alone, puts_files}
use Rattle.pw_commands.specs.Needed.{needed}
pub use Rattle.pw_commands.specs.Showing.{database_at}

abbrev pub flow_at : List ℕ → Result FlowModule ℕ
flow_at bytes = value_of (flow_file_at bytes)

-- the object of a flow graph under a database's directives
pub record IsObjectUnder (flow : FlowModule) (db : List (List ℕ × Directives)) (object : Object) : Type 0 where
  pub directives : List (List ℕ × Directives)
  pub of_database : AreDirectivesIn db flow directives
  pub of_flow : IsObjectOf flow directives object

-- the bytes of the object's file
pub record IsFileOfFlow (flow : FlowModule) (db : List (List ℕ × Directives)) (bytes : List ℕ) : Type 0 where
  pub lawful : IsDatabase db
  pub object : Object
  pub made : IsObjectUnder flow db object
  pub file : IsObjectFile bytes object

-- the names of the files that `phase2 NAME` puts
abbrev pub phase_two_puts : List ℕ → List (List ℕ)
phase_two_puts name = object_name name ∷ []

abbrev pub EffectOfFlow : List ℕ → FlowModule → List (List ℕ × Directives) → List ℕ → Effect → Type 0
EffectOfFlow name flow db input effect = (bytes : List ℕ) × IsFileOfFlow flow db bytes × (effect ≡ puts_files ((object_name name, bytes) ∷ []) input)

abbrev pub PhaseTwoOver : List ℕ → Result FlowModule Answer → Result (List (List ℕ × Directives)) Answer → List ℕ → Effect → Type 0
PhaseTwoOver name (Err answer) db input effect = effect ≡ answers_alone answer input
PhaseTwoOver name (Ok flow) (Err answer) input effect = effect ≡ answers_alone answer input
PhaseTwoOver name (Ok flow) (Ok db) input effect = EffectOfFlow name flow db input effect

-- `phase2 NAME` over a store's files: the flow graph is read first, then the database
abbrev pub PhaseTwoEffect : Files → List ℕ → List ℕ → Effect → Type 0
PhaseTwoEffect files name input effect = PhaseTwoOver name (needed flow_at files (flow_name name)) (needed database_at files database_name) input effect

-- ---- what is put, whatever the answer

-- The object is what the second phase makes of some flow graph and directives.
pub record IsMade (object : Object) : Type 0 where
  pub flow : FlowModule
  pub directives : List (List ℕ × Directives)
  pub of_module : AreDirectivesOf flow directives
  pub made : IsObjectOf flow directives object

-- the bytes are those of such an object's file
pub record IsMadeFile (bytes : List ℕ) : Type 0 where
  pub fits : AreBytes bytes
  pub object : Object
  pub made : IsMade object
  pub file : IsObjectFile bytes object

-- Nothing was put; or such a file was put under the module's name, whole, or in part where the store failed.
abbrev pub PutsMade : List ℕ → Told → Option Told → Type 0
PutsMade name told new = (new ≡ Some told) ⊎ ((bytes : List ℕ) × IsMadeFile bytes × PutPart told ((object_name name, bytes) ∷ []) new)
