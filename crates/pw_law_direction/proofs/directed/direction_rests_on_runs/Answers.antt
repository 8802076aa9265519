use Rattle.pw_law_direction.proofs.directed.direction_rests_on_runs.Goals as goal

pub returns : goal.returns
returns c = λ refines p d input ok base sound. record {
  runs = refines p d input ok base sound;
  registers = c.directed_runs_keep_registers.ensures p d input ok base sound;
  calls = c.directed_calls_are_of_the_graph.ensures p d input ok;
  traffic = c.directed_runs_obey_traffic.ensures p d input ok base sound;
}
