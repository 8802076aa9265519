-- What a step that looks at the objects comes to: a value, or why the run does not go on.
use Rattle.std.specs.Prelude.{◌≡◌, Option, Some, None, Result, Ok, Err, List}
use Rattle.pw_value.specs.Objects.{Object}
use Rattle.pw_cmean.specs.declared.undefined.Undef.{Undef}
use Rattle.pw_cmean.specs.Undefined.{Finding, lesser, least}
use Rattle.pw_cmean.specs.Acts.{Ending, Undefined, Wrong, State, Outcome, Gives, Ends, Site}
use Rattle.pw_interp_state.specs.declared.fault.Fault.{Fault}
use Rattle.pw_interp_state.specs.declared.fault.Fault.TheVariants as F

-- an answer, unless the step is an undefined operation
abbrev pub unless : {A : Type 0} → Option Undef → Result A Fault → Result A Fault
unless None answer = answer
unless (Some operation) answer = Err (F.Undefined operation)

abbrev pub judged : {A : Type 0} → List Finding → Result A Fault → Result A Fault
judged findings answer = unless (least findings) answer

-- the value that must be there
abbrev pub needed : {A : Type 0} → Option A → Result A Fault
needed (Some a) = Ok a
needed None = Err F.Wrong

-- ---- as an outcome

abbrev pub ending_of : Site → Fault → Ending
ending_of site (F.Undefined operation) = Undefined operation site.home site.token
ending_of site F.Wrong = Wrong

-- an answer at a node, where the state stays
abbrev pub answered : {A : Type 0} → Site → Result A Fault → State → Outcome A
answered site (Ok a) s = Gives a s
answered site (Err fault) s = Ends (ending_of site fault) s

-- new objects at a node
abbrev pub changed : Site → Result (List Object) Fault → State → Outcome (Unit {0})
changed site (Ok objects) s = Gives tt (record s { objects = objects })
changed site (Err fault) s = Ends (ending_of site fault) s

-- ---- as what the code does

-- the objects behind the step are those wanted; where it does not go on they stay
abbrev pub Changes : {A : Type 0} → List Object → Result (List Object) Fault → Result A Fault → List Object → Type 0
Changes before wanted (Ok done) behind = wanted ≡ Ok behind
Changes before wanted (Err fault) behind = (wanted ≡ Err fault) × (behind ≡ before)

-- of what was found in two lists the one with the least number
abbrev pub lesser_found : Option Undef → Option Undef → Option Undef
lesser_found None second = second
lesser_found (Some operation) second = Some (lesser operation second)
