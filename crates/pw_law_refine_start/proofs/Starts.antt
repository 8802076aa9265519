-- The runs start in states that match.
use Rattle.std.proofs.Common.{◌≡◌, ℕ, Some, List, refl}
use Rattle.std.proofs.lemmas.List.Elements.{All-from_recursion}
use Rattle.pw_lower.specs.Modules.{start_function}
use Rattle.pw_cmean.specs.Worlds.{World}
use Rattle.pw_cmean.specs.SourceRun.{start_state}
use Rattle.pw_run.specs.Runs.{none}
use Rattle.pw_value.specs.ProgramNames.{start_name}
use Rattle.pw_run_languages.specs.Programs.{AreBytes, function_named}
use Rattle.pw_run_languages.specs.FlowRun.{On, start}
use Rattle.pw_law_refine_steps.specs.FromLawRefine.Lowerable.{IsLowerableWorld}
use Rattle.pw_law_refine_steps.specs.FromLawRefine.Activations.{graphs}
use Rattle.pw_law_refine_steps.specs.FromLawRefine.Matching.{Matches}
use Rattle.pw_law_refine_steps.specs.FromLawRefine.Whole.{start_machine, StartsMatch}
use Rattle.pw_law_refine_start.specs.Start.{start_spots}
use Rattle.pw_law_refine_start.proofs.Functions.{start_named, main_takes_nothing}
use Rattle.pw_law_refine_start.proofs.Objects.{stand, globals_at, all_bytes, all_small}

pub begins : (w : World) (input : List ℕ) → IsLowerableWorld w → start (graphs w) input ≡ On (start_machine (graphs w) input)
begins w input l = let e : function_named (graphs w) start_name ≡ Some start_function = start_named w.program w.frame_of w.stack l.program in rw e refl

pub matches : (w : World) (input : List ℕ) → IsLowerableWorld w → AreBytes input → Matches w (start_spots (graphs w)) (start_state w.program input) (start_machine (graphs w) input)
matches w input l bytes = record {
  memory = stand w.program w.frame_of w.stack l.program;
  globals = globals_at w.program w.frame_of w.stack l.program;
  input = refl;
  shows = record { output = refl; read = refl; log = none };
  active = refl;
  bytes = record { objects = all_bytes w.program w.frame_of w.stack l.program; input = All-from_recursion _ input bytes };
  small = all_small w.program w.frame_of w.stack l.program;
}

pub starts_match : StartsMatch
starts_match w input l bytes = record {
  starts = begins w input l;
  spots = start_spots (graphs w);
  matches = matches w input l bytes;
  main = main_takes_nothing w.program w.frame_of w.stack l.program;
}
