use Rattle.pw_law_pause.proofs.Roomier.{roomier_notes}
use Rattle.pw_law_pause.proofs.laws.roomier_runs_note_more.Goals as goal

pub returns : goal.returns
returns c = roomier_notes
