-- Temporaries that some operation copies, and what they are for.
use Rattle.std.specs.Prelude.{ℕ, ◌<◌, Bool, true, false, List, slice_index_or}
use Rattle.pw_flow.specs.declared.flow.Op.{Op}
use Rattle.pw_flow.specs.declared.flow.Op.TheVariants.{Copy}

-- whether a temporary may be a copy of another one, which some operation has to copy
abbrev pub may_copy : List Bool → ℕ → ℕ → Bool
may_copy originals t a = slice_index_or originals a false

-- whether what an operation copies, if it copies, is among these
abbrev pub is_noted : List Bool → Op → Bool
is_noted originals (Copy t a) = may_copy originals t a
is_noted originals _ = true

-- what is copied is one of so many temporaries
abbrev pub CopiesBelow : ℕ → Op → Type 0
CopiesBelow temps (Copy t a) = a < temps
CopiesBelow temps _ = Unit {0}
