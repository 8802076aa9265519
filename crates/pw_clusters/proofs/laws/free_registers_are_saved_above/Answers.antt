use Rattle.pw_clusters.proofs.Sharing.{saved_above, of_no_web}
use Rattle.pw_clusters.proofs.laws.free_registers_are_saved_above.Goals as goal

pub returns : goal.returns
returns c = record { saved = saved_above; of_no_web = of_no_web }
