use Rattle.pw_law_never.proofs.Constants.{constant-gives}
use Rattle.pw_law_never.proofs.constants_give_their_value.Goals as goal

pub returns : goal.returns
returns g = λ e cs a n s h known. constant-gives e cs a n h known s
