use Rattle.pw_law_bytes.proofs.Running.{run_kept}
use Rattle.pw_law_bytes.proofs.laws.flow_globals_keep_their_bytes.Goals as goal

pub returns : goal.returns
returns c = run_kept
