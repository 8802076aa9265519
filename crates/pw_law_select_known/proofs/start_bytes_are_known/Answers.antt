use Rattle.pw_law_select_known.proofs.Framed.{start_bytes_are_known}
use Rattle.pw_law_select_known.proofs.start_bytes_are_known.Goals as goal

pub returns : goal.returns
returns c = start_bytes_are_known
