-- The spelling of a database: its file, and the payload alone.
use Rattle.std.specs.Prelude.{◌≡◌, ℕ, List, [], ◌∷◌, length, map, All, Contains}
use Rattle.std.specs.List.{flat_map, AllByRecursion}
use Rattle.pw_fields.specs.Fields.{u8, u32, flag, parts, FitsU32}
use Rattle.pw_fields.specs.FieldNames.{name_table, name_index}
use Rattle.pw_files.specs.Rising.{counted}
use Rattle.pw_files.specs.Kinds.{scalar}
use Rattle.pw_files.specs.Contents.{Contents, IsContents, IsFileWith, IsContentsOf}
use Rattle.pw_db.specs.declared.database.Web.{Web}
use Rattle.pw_db.specs.declared.database.Role.{Role}
use Rattle.pw_db.specs.declared.database.Role.TheVariants.{Entry, Member}
use Rattle.pw_db.specs.declared.database.Directives.{Directives}
use Rattle.pw_db.specs.declared.database.Database.{Database}
use Rattle.pw_db.specs.Database.{webs_of, kind, first_version, database_version, IsVersioned, newest}
use Rattle.pw_db_sharing.specs.Spelling.{sharing}

-- 0 for an entry, 1 for a member
abbrev pub role_code : Role → ℕ
role_code Entry = 0
role_code Member = 1

abbrev pub web : List (List ℕ) → Web × Role → List ℕ
web names w = parts (u32 w.0.id ∷ name_index names w.0.global ∷ scalar w.0.kind ∷ u8 w.0.reg ∷ flag w.0.writes ∷ u8 (role_code w.1) ∷ [])

abbrev pub function : ℕ → List (List ℕ) → List ℕ × Directives → List ℕ
function version names f = parts (name_index names f.0 ∷ counted (web names) f.1.webs ∷ sharing version (f.1.free, f.1.saves) ∷ [])

-- the names that functions use, in the order of their use
abbrev pub names_of_function : List ℕ × Directives → List (List ℕ)
names_of_function f = f.0 ∷ map (λ w. w.global) (webs_of f.1)

abbrev pub names_of : List (List ℕ × Directives) → List (List ℕ)
names_of fs = flat_map names_of_function fs

abbrev pub names_in : Database → List (List ℕ)
names_in db = names_of db.functions

-- the names that a function uses stand in a table
pub record IsNamedBy (names : List (List ℕ)) (f : List ℕ × Directives) : Type 0 where
  pub name : Contains names f.0
  pub globals : All (λ w. Contains names w.0.global) f.1.webs

-- counts and numbers that a file can hold
pub record FitsFunction (f : List ℕ × Directives) : Type 0 where
  pub count : FitsU32 (length f.1.webs)
  pub numbers : AllByRecursion (λ w. FitsU32 w.id) (webs_of f.1)

pub record FitsDatabase (fs : List (List ℕ × Directives)) : Type 0 where
  pub count : FitsU32 (length fs)
  pub each : AllByRecursion FitsFunction fs

abbrev pub spelling : ℕ → Contents Database → List ℕ
spelling version c = parts (name_table c.names ∷ counted (function version c.names) c.value.functions ∷ [])

-- a lawful database of the version that its fields can hold, with the table of its names
pub record IsDatabaseContents (version : ℕ) (c : Contents Database) : Type 0 where
  pub version_is : c.value.version ≡ version
  pub contents : IsContents IsVersioned (λ db. FitsDatabase db.functions) names_in c

-- the bytes are the file of the database
abbrev pub IsDatabaseFile : List ℕ → Database → Type 0
IsDatabaseFile = IsFileWith kind first_version database_version spelling IsDatabaseContents

-- the file of functions in the last version
abbrev pub IsNewFile : List ℕ → List (List ℕ × Directives) → Type 0
IsNewFile bytes fs = IsDatabaseFile bytes (newest fs)

-- the bytes are the payload of the functions, alone and in the last version
abbrev pub IsPayload : List ℕ → List (List ℕ × Directives) → Type 0
IsPayload bytes fs = IsContentsOf (spelling database_version) (IsDatabaseContents database_version) bytes (newest fs)
