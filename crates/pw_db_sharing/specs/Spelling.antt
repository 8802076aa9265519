-- The spelling of the registers that a function shares with others.
use Rattle.std.specs.Prelude.{◌==◌, ℕ, List, [], ◌∷◌, if◌then◌else◌}
use Rattle.pw_fields.specs.Fields.{u8, u32, parts}
use Rattle.pw_files.specs.Rising.{counted}
use Rattle.pw_db.specs.Database.{first_version}

-- The registers that a function is free to use, and those that it saves for others. In the first version there are none of
-- either, and a count of none stands for the first.
abbrev pub sharing : ℕ → List ℕ × List ℕ → List ℕ
sharing version shared = if version == first_version then u32 0 else parts (counted u8 shared.0 ∷ counted u8 shared.1 ∷ [])
