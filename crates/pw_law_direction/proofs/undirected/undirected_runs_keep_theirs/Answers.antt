use Rattle.std.proofs.Common.{[]}
use Rattle.pw_run_languages.specs.LawfulPrograms.{graph_of}
use Rattle.pw_law_direction.proofs.Stepping.{refines}
use Rattle.pw_law_direction.proofs.undirected.undirected_runs_keep_theirs.Goals as goal

pub returns : goal.returns
returns c = λ p input ok.
    let sound = c.nothing_is_sound.ensures (graph_of p) in
    record {
      runs = refines p ok (λ i n m e. c.directed_values_are_fine.ensures p [] i ok n m e) input;
      registers = c.directed_runs_keep_registers.ensures p [] input ok (record { functions = tt; directives = tt; agree = tt }) sound;
      calls = c.directed_calls_are_of_the_graph.ensures p [] input ok;
      traffic = c.directed_runs_obey_traffic.ensures p [] input ok (record { functions = tt; directives = tt; agree = tt }) sound;
    }
