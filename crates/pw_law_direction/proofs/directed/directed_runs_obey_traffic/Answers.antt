use Rattle.pw_run_languages.specs.Traffic.{ObeysTraffic}
use Rattle.pw_run_languages.specs.LawfulPrograms.{graph_of}
use Rattle.pw_law_direction.proofs.Running.{run_notes}
use Rattle.pw_law_direction.proofs.Traffic.{keeps_law, last_keeps_law}
use Rattle.pw_law_direction.proofs.directed.directed_runs_obey_traffic.Goals as goal

pub returns : goal.returns
returns c = λ p d input ok base sound n.
    run_notes p d ok (ObeysTraffic (graph_of p) d) (λ acts regs l t. (keeps_law p d base sound t).0) (λ l t. last_keeps_law p d base sound t) input n
