-- The spelling of a summary, and its file.
use Rattle.std.specs.Prelude.{ℕ, ◌≡◌, List, [], ◌∷◌, ◌++◌, length, map, All, Contains}
use Rattle.std.specs.List.{flat_map, AllByRecursion}
use Rattle.pw_fields.specs.Fields.{parts, FitsU32, FitsText}
use Rattle.pw_fields.specs.FieldNames.{name_table, name_index}
use Rattle.pw_files.specs.Rising.{counted, FitsList}
use Rattle.pw_files.specs.Names.{shaped, FitsShapes}
use Rattle.pw_files.specs.Contents.{Contents, IsContents, IsFileWith}
use Rattle.pw_summary.specs.declared.summary.Summary.{Summary}
use Rattle.pw_summary.specs.Summary.{global_names, function_names, kind, first_version, summary_version, IsVersioned}
use Rattle.pw_summary_parts.specs.Spelling.{global, uses, names_of_uses, AreNamed, FitsUses}

-- what the module has itself, and what it uses
abbrev pub own : List (List ℕ) → Summary → List ℕ
own names s = parts (name_index names s.module ∷ counted (global names) s.globals ∷ counted (shaped names) s.functions ∷ counted (shaped names) s.declared ∷ [])

abbrev pub others : ℕ → List (List ℕ) → Summary → List ℕ
others version names s = parts (counted (name_index names) s.used ∷ counted (shaped names) s.taken ∷ counted (name_index names) s.escaped ∷ flat_map (uses version names) s.uses ∷ [])

-- the names that a summary uses, in the order of their use
abbrev pub names_of : Summary → List (List ℕ)
names_of s = s.module ∷ (global_names s ++ (function_names s ++ (map (λ f. f.0) s.declared ++ (s.used ++ (map (λ f. f.0) s.taken ++ (s.escaped ++ flat_map names_of_uses s.uses))))))

-- the names that a summary uses stand in a table
pub record IsNamedBy (names : List (List ℕ)) (s : Summary) : Type 0 where
  pub of_module : Contains names s.module
  pub globals : All (λ g. Contains names g.0) s.globals
  pub functions : All (λ f. Contains names f.0) s.functions
  pub declared : All (λ f. Contains names f.0) s.declared
  pub used : All (Contains names) s.used
  pub taken : All (λ f. Contains names f.0) s.taken
  pub escaped : All (Contains names) s.escaped
  pub uses : AllByRecursion (AreNamed names) s.uses

-- counts and texts that a file can hold
pub record FitsSummary (s : Summary) : Type 0 where
  pub globals : FitsList (λ g. FitsText g.1) s.globals
  pub functions : FitsShapes s.functions
  pub declared : FitsShapes s.declared
  pub used : FitsU32 (length s.used)
  pub taken : FitsShapes s.taken
  pub escaped : FitsU32 (length s.escaped)
  pub uses : AllByRecursion FitsUses s.uses

abbrev pub spelling : ℕ → Contents Summary → List ℕ
spelling version c = parts (name_table c.names ∷ own c.names c.value ∷ others version c.names c.value ∷ [])

-- a lawful summary of the version that its fields can hold, with the table of its names
pub record IsSummaryContents (version : ℕ) (c : Contents Summary) : Type 0 where
  pub version_is : c.value.version ≡ version
  pub contents : IsContents IsVersioned FitsSummary names_of c

-- the bytes are the file of the summary
abbrev pub IsSummaryFile : List ℕ → Summary → Type 0
IsSummaryFile = IsFileWith kind first_version summary_version spelling IsSummaryContents
