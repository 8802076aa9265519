-- What stands behind a file's header: the table of the names that its value uses, and the value's fields,
-- to their end.
use Rattle.std.specs.Prelude.{◌≡◌, ℕ, List, length, Option, Some, None, Result, Ok, Err}
use Rattle.pw_fields.specs.Fields.{◌>>=◌, FitsU32}
use Rattle.pw_fields.specs.FieldFrame.{here, IsFileOf, file_at}
use Rattle.pw_fields.specs.FieldNames.{names_at, first_unused, IsTableOf}
use Rattle.pw_files.specs.Start.{start_rule, sooner}

-- a value and the table of its names
pub record Contents (V : Type 0) : Type 0 where
  pub names : List (List ℕ)
  pub value : V

-- the value is lawful and fits into its fields, and the table has the names that it uses
pub record IsContents {V : Type 0} (IsLawful Fits : V → Type 0) (names_of : V → List (List ℕ)) (c : Contents V) : Type 0 where
  pub lawful : IsLawful c.value
  pub fits : Fits c.value
  pub name_count : FitsU32 (length c.names)
  pub names : IsTableOf c.names (names_of c.value)

-- the bytes are a file of the value, of this kind and in one of the versions from the first to the last
abbrev pub IsFileWith : {V : Type 0} → ℕ → ℕ → ℕ → (ℕ → Contents V → List ℕ) → (ℕ → Contents V → Type 0) → List ℕ → V → Type 0
IsFileWith {V = V} kind first last spelling Is bytes v = (names : List (List ℕ)) × IsFileOf {X = Contents V} kind first last spelling Is bytes (record { names = names; value = v })

-- the bytes are the contents of the value, alone
abbrev pub IsContentsOf : {V : Type 0} → (Contents V → List ℕ) → (Contents V → Type 0) → List ℕ → V → Type 0
IsContentsOf spelling Is bytes v = (names : List (List ℕ)) × Is (record { names = names; value = v }) × (bytes ≡ spelling (record { names = names; value = v }))

-- ---- the rules that are looked at last

-- Each name of the table is used, where so many bytes are left behind the table; and $start stands beside
-- main, where so many are left from the count of the functions on.
abbrev pub module_rules : List (List ℕ) → List (List ℕ) → ℕ → List (List ℕ) → List (List ℕ) → ℕ → Option ℕ
module_rules names used behind functions globals count = sooner (first_unused names used behind) (start_rule functions globals count)

-- a rule that is broken at a place
abbrev pub broken_at : Option ℕ → Result (Unit {0}) ℕ
broken_at None = Ok tt
broken_at (Some left) = Err left

-- ---- reading

-- How the fields of a value are read to their end, behind this table of names and under this rule on the
-- value and on the place of the count of its functions.
abbrev pub FieldsReader : Type 0 → Type 0
FieldsReader V = List (List ℕ) → (V → ℕ → Option ℕ) → List ℕ → Result (Contents V × List ℕ) ℕ

unfoldable pub contents_at : {V : Type 0} → FieldsReader V → (List (List ℕ) → ℕ → V → ℕ → Option ℕ) → List ℕ → Result (Contents V × List ℕ) ℕ
contents_at fields late = do
  names ← names_at
  behind ← here
  fields names (late names behind)

-- a file of this kind, whose fields are read by its version, one of those from the first to the last
abbrev pub contents_file_at : {V : Type 0} → ℕ → ℕ → ℕ → (ℕ → FieldsReader V) → (List (List ℕ) → ℕ → V → ℕ → Option ℕ) → List ℕ → Result (Contents V) ℕ
contents_file_at kind first last fields late = file_at kind first last (λ version. contents_at (fields version) late)

-- the value alone
abbrev pub value_of : {V : Type 0} → Result (Contents V) ℕ → Result V ℕ
value_of (Ok c) = Ok c.value
value_of (Err at) = Err at
