-- Which cause is told by a reader that takes memory.
use Rattle.std.specs.Prelude.{◌≡◌, ℕ, Result, IsOk, IfErr}
use Rattle.pw_fields.specs.declared.fault.FieldFault.{FieldFault}
use Rattle.pw_fields.specs.declared.fault.FieldFault.TheVariants as field

-- Where reading finds a fault, want of memory is not told in its place.
abbrev pub FaultFirst : {X Y : Type 0} → Result X FieldFault → Result Y ℕ → Type 0
FaultFirst result found = IfErr result (λ e. e ≡ field.NoMemory → IsOk found)
