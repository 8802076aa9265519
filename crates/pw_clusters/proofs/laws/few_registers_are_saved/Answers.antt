use Rattle.pw_summary.specs.Summary.{need_limit}
use Rattle.pw_clusters.proofs.Registers.{kept, apart}
use Rattle.pw_clusters.proofs.Sharing.{bounded}
use Rattle.pw_clusters.proofs.laws.few_registers_are_saved.Goals as goal

pub returns : goal.returns
returns c = record { kept = kept; apart = apart; few = λ roots needs r all. bounded need_limit r 0 roots needs all }
