-- A value that must be there.
use Rattle.std.specs.Prelude.{Option, Some, None, Result, Ok, Err}
use Rattle.pw_interp_calls.specs.declared.ending.Ending.TheVariants as E
use Rattle.pw_interp_calls.specs.declared.ending.Stop.{Stop}
use Rattle.pw_interp_calls.specs.declared.ending.Stop.TheVariants as S

abbrev pub needed : {B : Type 0} → Option B → Result B Stop
needed (Some b) = Ok b
needed None = Err (S.Ended E.Wrong)
