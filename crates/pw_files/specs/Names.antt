-- Names in byte order, and names with their shapes.
use Rattle.std.specs.Prelude.{ℕ, ◌&&◌, List, [], ◌∷◌, Option, Result}
use Rattle.pw_fields.specs.Fields.{◌>>=◌, done, checked, text_at, text, parts, FitsText}
use Rattle.pw_fields.specs.FieldNames.{name_at, name_index}
use Rattle.pw_value.specs.declared.program_names.StartName.{StartName}
use Rattle.pw_value.specs.ProgramNames.{may_stand}
use Rattle.pw_files.specs.Rising.{is_above, rising_at, FitsList}

-- ---- the spelling

-- a name with its shape
abbrev pub shaped : List (List ℕ) → List ℕ × List ℕ → List ℕ
shaped names f = parts (name_index names f.0 ∷ text f.1 ∷ [])

-- names with shapes that a file can hold
abbrev pub FitsShapes : List (List ℕ × List ℕ) → Type 0
FitsShapes fs = FitsList (λ f. FitsText f.1) fs

-- ---- the reading

-- a name above the one before it, where $start may stand, or may not
unfoldable pub name_above_at : List (List ℕ) → StartName → Option (List ℕ) → List ℕ → Result (List ℕ × List ℕ) ℕ
name_above_at names start before = checked (λ name. is_above before name && may_stand start name) (name_at names)

-- a text above the one before it
unfoldable pub text_above_at : Option (List ℕ) → List ℕ → Result (List ℕ × List ℕ) ℕ
text_above_at before = checked (is_above before) text_at

unfoldable pub shaped_at : List (List ℕ) → StartName → Option (List ℕ) → List ℕ → Result ((List ℕ × List ℕ) × List ℕ) ℕ
shaped_at names start before = do
  name ← name_above_at names start before
  shape ← text_at
  done (name, shape)

-- lists of these in byte order without repeats
abbrev pub name_list_at : List (List ℕ) → StartName → List ℕ → Result (List (List ℕ) × List ℕ) ℕ
name_list_at names start = rising_at (λ name. name) (name_above_at names start)

abbrev pub text_list_at : List ℕ → Result (List (List ℕ) × List ℕ) ℕ
text_list_at = rising_at (λ text. text) text_above_at

abbrev pub shaped_list_at : List (List ℕ) → StartName → List ℕ → Result (List (List ℕ × List ℕ) × List ℕ) ℕ
shaped_list_at names start = rising_at (λ f. f.0) (shaped_at names start)
