-- How a run ends, as the meaning has it.
use Rattle.std.specs.Prelude.{Option, Some, None, Result, Ok, Err}
use Rattle.pw_cmean.specs.Acts as acts
use Rattle.pw_interp_calls.specs.declared.ending.Ending.{Ending}
use Rattle.pw_interp_calls.specs.declared.ending.Ending.TheVariants as E
use Rattle.pw_interp_calls.specs.declared.ending.Stop.{Stop}
use Rattle.pw_interp_calls.specs.declared.ending.Stop.TheVariants as S

abbrev pub view_ending : Ending → acts.Ending
view_ending (E.Undefined operation home token) = acts.Undefined operation home.now token
view_ending E.StackFull = acts.StackFull
view_ending (E.Exit status) = acts.Exit status
view_ending E.Bound = acts.Bound
view_ending E.Wrong = acts.Wrong

-- what a stop tells of the run; want of memory tells nothing
abbrev pub told_stop : Stop → Option acts.Ending
told_stop (S.Ended ending) = Some (view_ending ending)
told_stop S.NoMemory = None

abbrev pub told : {A : Type 0} → Result A Stop → Option (Result A acts.Ending)
told (Ok a) = Some (Ok a)
told (Err (S.Ended ending)) = Some (Err (view_ending ending))
told (Err S.NoMemory) = None
