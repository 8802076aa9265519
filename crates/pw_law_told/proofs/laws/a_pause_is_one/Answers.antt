use Rattle.pw_law_told.proofs.Pauses.{pause_is}
use Rattle.pw_law_told.proofs.laws.a_pause_is_one.Goals as goal

pub returns : goal.returns
returns c = pause_is c.longer_runs_note_more.ensures c.roomier_runs_note_more.ensures
