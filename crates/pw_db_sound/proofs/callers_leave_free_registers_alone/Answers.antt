use Rattle.pw_db_sound.proofs.Roots.{left_alone_above}
use Rattle.pw_db_sound.proofs.callers_leave_free_registers_alone.Goals as goal

pub returns : goal.returns
returns c = left_alone_above
