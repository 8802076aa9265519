use Rattle.pw_law_pause.proofs.Cutting.{longer_notes}
use Rattle.pw_law_pause.proofs.laws.longer_runs_note_more.Goals as goal

pub returns : goal.returns
returns c = longer_notes
