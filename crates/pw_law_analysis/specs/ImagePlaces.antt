-- Where the globals of a program stand while its image runs: a global that an active function has in a web stands in the
-- web's register, or in the word in which a function called since has saved that; every other one stands in memory.
use Rattle.std.specs.Prelude.{ℕ, List}
use Rattle.pw_db.specs.declared.database.Directives.{Directives}
use Rattle.pw_image.specs.declared.image.Image.{Image}
use Rattle.pw_run.specs.Runs.{Refines}
use Rattle.pw_run_languages.specs.Programs as flows
use Rattle.pw_cmean.specs.Worlds.{Program}
use Rattle.pw_run_languages.specs.Traces.{calls_of}
use Rattle.pw_run_languages.specs.LinkingLaws.{address_of, frame_in, image_run}
use Rattle.pw_law_temps.specs.Laws.{allocated_functions}
use Rattle.pw_law_source.specs.Source.{source_stages}
use Rattle.pw_law_layers.specs.Whole.{InMachine}

-- The calls and returns of the program's functions, one by one, are those of the machine, as far as each bound for which the
-- program's run meets no undefined operation; and at each of them each global has its value in its place. The flow graphs are
-- those of which the image was made.
abbrev pub GlobalsHavePlaces : Program → flows.Program → List (List ℕ × Directives) → Image → List ℕ → Type 0
GlobalsHavePlaces p q d v input =
    Refines (InMachine q (address_of v)) (source_stages p (frame_in v) q.stack input) (calls_of (image_run q (allocated_functions q d) v input))
