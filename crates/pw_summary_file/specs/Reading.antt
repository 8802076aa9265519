-- Reading a summary file from left to right, with the first fault that is met.
use Rattle.std.specs.Prelude.{ℕ, List, length, Option, Result}
use Rattle.pw_fields.specs.Fields.{◌>>=◌, done, repeated}
use Rattle.pw_fields.specs.FieldFrame.{here, ended}
use Rattle.pw_fields.specs.FieldNames.{name_at}
use Rattle.pw_value.specs.declared.program_names.StartName.TheVariants.{Allowed, Refused}
use Rattle.pw_files.specs.Rising.{rising_at}
use Rattle.pw_files.specs.Names.{name_list_at, shaped_list_at}
use Rattle.pw_files.specs.Contents.{Contents, module_rules, contents_file_at}
use Rattle.pw_summary.specs.declared.summary.Defined.{Defined}
use Rattle.pw_summary.specs.declared.summary.Used.{Used}
use Rattle.pw_summary.specs.declared.summary.Summary.{Summary}
use Rattle.pw_summary.specs.Summary.{whole_summary, global_names, function_names, kind, first_version, summary_version}
use Rattle.pw_summary_parts.specs.Reading.{global_at, uses_at}
use Rattle.pw_summary_file.specs.Spelling.{names_of}

-- ---- the payload: the module's name, and two parts behind it

-- what the module defines and declares, and how many bytes are left from the count of the functions on
unfoldable pub defined_at : List (List ℕ) → List ℕ → Result ((Defined × ℕ) × List ℕ) ℕ
defined_at names = do
  globals ← rising_at (λ g. g.0) (global_at names)
  count ← here
  functions ← shaped_list_at names Allowed
  declared ← shaped_list_at names Allowed
  done (record { globals = globals; functions = functions; declared = declared }, count)

-- what the module uses, which defines so many functions
unfoldable pub used_at : ℕ → List (List ℕ) → ℕ → List ℕ → Result (Used × List ℕ) ℕ
used_at version names functions = do
  used ← name_list_at names Allowed
  taken ← shaped_list_at names Refused
  escaped ← name_list_at names Allowed
  uses ← repeated (uses_at version names) functions
  done (record { used = used; taken = taken; escaped = escaped; uses = uses })

-- The rules that are looked at last: each name of the table is used, where so many bytes are left behind
-- the table; and $start stands beside main, where so many are left from the count of the functions on.
abbrev pub last_rules : List (List ℕ) → ℕ → Summary → ℕ → Option ℕ
last_rules names behind s count = module_rules names (names_of s) behind (function_names s) (global_names s) count

-- the fields of a version to their end, under such a rule
unfoldable pub fields_at : ℕ → List (List ℕ) → (Summary → ℕ → Option ℕ) → List ℕ → Result (Contents Summary × List ℕ) ℕ
fields_at version names late = do
  name ← name_at names
  defined ← defined_at names
  used ← used_at version names (length defined.0.functions)
  let summary = whole_summary version name defined.0 used in ended (late summary defined.1) (record { names = names; value = summary })

abbrev pub summary_file_at : List ℕ → Result (Contents Summary) ℕ
summary_file_at = contents_file_at kind first_version summary_version fields_at last_rules
