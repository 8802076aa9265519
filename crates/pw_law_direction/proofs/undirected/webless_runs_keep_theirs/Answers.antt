use Rattle.std.proofs.Common.{subst}
use Rattle.pw_run.specs.Runs.{Refines}
use Rattle.pw_run_languages.specs.Traces.{calls_of}
use Rattle.pw_run_languages.specs.FlowRun.{flow_run}
use Rattle.pw_run_languages.specs.LawfulPrograms.{graph_of}
use Rattle.pw_run_languages.specs.Direction.{MomentAlike}
use Rattle.pw_law_direction.proofs.Webless.{same_run}
use Rattle.pw_law_direction.proofs.undirected.webless_runs_keep_theirs.Goals as goal

pub returns : goal.returns
returns c = λ p d input ok base none.
    let sound = c.no_webs_are_sound.ensures (graph_of p) d none in
    record {
      runs = subst (λ run. Refines (MomentAlike p) (flow_run p input) (calls_of run)) (same_run p d input none) (c.undirected_runs_keep_theirs.ensures p input ok).runs;
      registers = c.directed_runs_keep_registers.ensures p d input ok base sound;
      calls = c.directed_calls_are_of_the_graph.ensures p d input ok;
      traffic = c.directed_runs_obey_traffic.ensures p d input ok base sound;
    }
