-- The spelling of the parts of a summary: a global, what a function reads and writes, and what it uses.
use Rattle.std.specs.Prelude.{ℕ, ◌==◌, if◌then◌else◌, Bool, Option, List, [], ◌∷◌, ◌++◌, length, map, All, Contains}
use Rattle.pw_value.specs.declared.value.Kind.{Kind}
use Rattle.pw_fields.specs.Fields.{u8, u64, text, flag, parts, FitsU32, FitsText}
use Rattle.pw_fields.specs.FieldNames.{name_index}
use Rattle.pw_files.specs.Rising.{counted, FitsList}
use Rattle.pw_files.specs.Kinds.{kind as kind_byte}
use Rattle.pw_summary.specs.declared.summary.Uses.{Uses}
use Rattle.pw_summary.specs.Summary.{first_version}

abbrev pub global : List (List ℕ) → List ℕ × List ℕ × Option Kind × Bool → List ℕ
global names g = parts (name_index names g.0 ∷ text g.1 ∷ kind_byte g.2 ∷ flag g.3 ∷ [])

abbrev pub reference : List (List ℕ) → List ℕ × ℕ × ℕ → List ℕ
reference names r = parts (name_index names r.0 ∷ u64 r.1 ∷ u64 r.2 ∷ [])

-- what a function needs, for which no byte stands in the first version
abbrev pub need : ℕ → ℕ → List ℕ
need version n = if version == first_version then [] else u8 n

abbrev pub uses : ℕ → List (List ℕ) → Uses → List ℕ
uses version names u = parts (counted (name_index names) u.calls ∷ counted text u.shapes ∷ counted (reference names) u.refs ∷ need version u.need ∷ [])

-- the names that a function uses, in the order of their use
abbrev pub names_of_uses : Uses → List (List ℕ)
names_of_uses u = u.calls ++ map (λ r. r.0) u.refs

-- the names that a function uses stand in a table
abbrev pub AreNamed : List (List ℕ) → Uses → Type 0
AreNamed names u = All (Contains names) u.calls × All (λ r. Contains names r.0) u.refs

-- counts and texts that a file can hold
pub record FitsUses (u : Uses) : Type 0 where
  pub calls : FitsU32 (length u.calls)
  pub shapes : FitsList FitsText u.shapes
  pub refs : FitsU32 (length u.refs)
