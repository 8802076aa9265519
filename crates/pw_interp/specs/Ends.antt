-- How a run ended, as the meaning has it.
use Rattle.std.specs.Prelude.{Result, Ok, Err}
use Rattle.pw_cmean.specs.Acts as acts
use Rattle.pw_interp_calls.specs.declared.ending.Ending.{Ending}
use Rattle.pw_interp_calls.specs.declared.ending.Stop.{Stop}
use Rattle.pw_interp_calls.specs.declared.ending.Stop.TheVariants as S
use Rattle.pw_interp.specs.declared.ends.CEnd.{CEnd}
use Rattle.pw_interp.specs.declared.ends.CEnd.TheVariants as E
use Rattle.pw_interp.specs.declared.ends.InterpFault.{InterpFault}
use Rattle.pw_interp.specs.declared.ends.InterpFault.TheVariants.{NoMemory}

abbrev pub view_end : CEnd → acts.Ending
view_end (E.Ended status) = acts.Exit status
view_end E.Stack = acts.StackFull
view_end (E.Undefined operation home token) = acts.Undefined operation home token
view_end E.Bound = acts.Bound

-- how a run ended that came to this; want of memory gives it up
abbrev pub ending_of : Stop → Result Ending InterpFault
ending_of (S.Ended ending) = Ok ending
ending_of S.NoMemory = Err NoMemory
