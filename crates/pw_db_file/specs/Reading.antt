-- Reading a database from left to right, with the first fault that is met.
use Rattle.std.specs.Prelude.{ℕ, zero, suc, ◌==◌, ◌&&◌, nat_le, nat_lt, not, Bool, true, List, [], ◌∷◌, ◌++◌, Option, Some, None, Result, Ok, Err, if◌then◌else◌}
use Rattle.std.specs.List.{list_all}
use Rattle.std.specs.Str.{bytes_eq}
use Rattle.pw_value.specs.declared.value.Kind.{Kind}
use Rattle.pw_fields.specs.Fields.{◌>>=◌, done, checked, u8_at, u32_at, flag_at, choice_at, items_at}
use Rattle.pw_fields.specs.FieldFrame.{here, ended}
use Rattle.pw_fields.specs.FieldNames.{name_at, first_unused}
use Rattle.pw_value.specs.ProgramNames.{same_truth}
use Rattle.pw_value.specs.declared.program_names.StartName.TheVariants.{Allowed}
use Rattle.pw_files.specs.Kinds.{scalar_code, scalar_at}
use Rattle.pw_files.specs.Names.{name_above_at}
use Rattle.pw_files.specs.Contents.{Contents, contents_at, contents_file_at}
use Rattle.pw_db.specs.Limits.{first_register, last_register}
use Rattle.pw_db.specs.declared.database.Web.{Web}
use Rattle.pw_db.specs.declared.database.Role.{Role}
use Rattle.pw_db.specs.declared.database.Role.TheVariants.{Entry, Member}
use Rattle.pw_db.specs.declared.database.Directives.{Directives}
use Rattle.pw_db.specs.declared.database.Database.{Database}
use Rattle.pw_db.specs.Database.{webs_of, kind, first_version, database_version, of_version}
use Rattle.pw_db_sharing.specs.Reading.{sharing_at}
use Rattle.pw_db_file.specs.Spelling.{names_in}

-- ---- webs that were read before

-- the first web of a number
abbrev pub first_with : ℕ → List Web → Option Web
first_with id [] = None
first_with id (w ∷ webs) = if w.id == id then Some w else first_with id webs

-- whether a field fits the web of the same number that stands before, if there is one
abbrev pub fits_first : Option Web → (Web → Bool) → Bool
fits_first None test = true
fits_first (Some w) test = test w

-- ---- a web

-- a number above those of the function's webs before it
unfoldable pub number_at : List Web → List ℕ → Result (ℕ × List ℕ) ℕ
number_at own = checked (λ id. list_all (λ w. nat_lt w.id id) own) u32_at

-- the global of no web of the function before it
unfoldable pub global_at : List (List ℕ) → Option Web → List Web → List ℕ → Result (List ℕ × List ℕ) ℕ
global_at names first own = checked (λ name. fits_first first (λ w. bytes_eq w.global name) && list_all (λ w. not (bytes_eq w.global name)) own) (name_at names)

unfoldable pub kind_at : Option Web → List ℕ → Result (Kind × List ℕ) ℕ
kind_at first = checked (λ k. fits_first first (λ w. scalar_code w.kind == scalar_code k)) scalar_at

-- a register that a callee keeps, that of no web of the function before it
unfoldable pub register_at : Option Web → List Web → List ℕ → Result (ℕ × List ℕ) ℕ
register_at first own = checked (λ r. (nat_le first_register r && nat_le r last_register) && (fits_first first (λ w. w.reg == r) && list_all (λ w. not (w.reg == r)) own)) u8_at

unfoldable pub writes_at : Option Web → List ℕ → Result (Bool × List ℕ) ℕ
writes_at first = checked (λ b. fits_first first (λ w. same_truth w.writes b)) flag_at

abbrev pub role_of : ℕ → Role
role_of zero = Entry
role_of (suc code) = Member

unfoldable pub role_at : List ℕ → Result (Role × List ℕ) ℕ
role_at = do
  code ← choice_at 2
  done (role_of code)

-- a web behind others: `seen` are those of the file, `own` those of the function
unfoldable pub web_at : List (List ℕ) → List Web → List Web → List ℕ → Result ((Web × Role) × List ℕ) ℕ
web_at names seen own = do
  id ← number_at own
  global ← global_at names (first_with id seen) own
  kind ← kind_at (first_with id seen)
  reg ← register_at (first_with id seen) own
  writes ← writes_at (first_with id seen)
  role ← role_at
  done (record { id = id; global = global; kind = kind; reg = reg; writes = writes }, role)

-- ---- functions

abbrev pub next_web : List Web → Web × Role → List Web
next_web own w = own ++ w.0 ∷ []

-- so many webs of a function, where `seen` are those of the functions before it
abbrev pub webs_at : List (List ℕ) → List Web → ℕ → List ℕ → Result (List (Web × Role) × List ℕ) ℕ
webs_at names seen count = items_at (λ own. web_at names (seen ++ own) own) next_web count []

-- the function before, and the webs of all functions before
pub record Before : Type 0 where
  pub name : Option (List ℕ)
  pub webs : List Web

unfoldable pub function_at : ℕ → List (List ℕ) → Before → List ℕ → Result ((List ℕ × Directives) × List ℕ) ℕ
function_at version names before = do
  name ← name_above_at names Allowed before.name
  count ← u32_at
  webs ← webs_at names before.webs count
  shared ← sharing_at version
  done (name, record { webs = webs; free = shared.0; saves = shared.1 })

abbrev pub next_function : Before → List ℕ × Directives → Before
next_function before f = record { name = Some f.0; webs = before.webs ++ webs_of f.1 }

abbrev pub nothing_before : Before
nothing_before = record { name = None; webs = [] }

-- ---- the payload

unfoldable pub functions_at : ℕ → List (List ℕ) → List ℕ → Result (List (List ℕ × Directives) × List ℕ) ℕ
functions_at version names = do
  count ← u32_at
  functions ← items_at (function_at version names) next_function count nothing_before
  done functions

-- the rule that is looked at last: each name of the table is used, where so many bytes are left behind it
abbrev pub unused_rule : List (List ℕ) → ℕ → Database → ℕ → Option ℕ
unused_rule names behind db count = first_unused names (names_in db) behind

-- the fields of a version to their end, under such a rule
unfoldable pub fields_at : ℕ → List (List ℕ) → (Database → ℕ → Option ℕ) → List ℕ → Result (Contents Database × List ℕ) ℕ
fields_at version names late = do
  count ← here
  functions ← functions_at version names
  ended (late (of_version version functions) count) (record { names = names; value = of_version version functions })

abbrev pub payload_at : List ℕ → Result (Contents Database × List ℕ) ℕ
payload_at = contents_at (fields_at database_version) unused_rule

abbrev pub database_file_at : List ℕ → Result (Contents Database) ℕ
database_file_at = contents_file_at kind first_version database_version fields_at unused_rule

-- its functions alone, whatever the version
abbrev pub functions_in : Result Database ℕ → Result (List (List ℕ × Directives)) ℕ
functions_in (Ok db) = Ok db.functions
functions_in (Err at) = Err at
