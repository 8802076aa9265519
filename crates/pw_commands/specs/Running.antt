-- What `run` comes to: the run of the program that stands in `prog.img`.
use Rattle.std.specs.Prelude.{ℕ, List, [], Result, Ok, Err}
use Rattle.pw_io.specs.Files.{Files}
use Rattle.pw_image.specs.Reading.{image_file_at}
use Rattle.pw_image.specs.Loading.{loaded_as}
use Rattle.pw_machine.specs.Core.{Core}
use Rattle.pw_machine.specs.Start.{image_start}
use Rattle.pw_machine.specs.Run.{run_of}
use Rattle.pw_store_modules.specs.FileNames.{image_name}
use Rattle.pw_top_answer.specs.declared.answer.Answer.{Answer}
use Rattle.pw_top_answer.specs.declared.answer.Answer.TheVariants.{Done, Usage, Refused, LinkRefused, RefusedSource, Cpp}
use Rattle.pw_top_answer.specs.Effects.{Effect, answers_alone}
use Rattle.pw_commands.specs.MachineRun.{ran, start_state}
use Rattle.pw_commands.specs.Needed.{needed}

-- the machine at the start of the image that stands in a file
abbrev pub core_at : List ℕ → Result Core ℕ
core_at bytes = loaded_as (λ image. image_start image.memory) (image_file_at bytes)

-- the machine at the start of the program that stands there
abbrev pub core_in : Files → Result Core Answer
core_in files = needed core_at files image_name

abbrev pub runs : Result Core Answer → ℕ → List ℕ → Effect
runs (Err answer) budget input = answers_alone answer input
runs (Ok core) budget input = ran (run_of budget (start_state core input))

-- `run` over a store's files, for at most so many instructions
abbrev pub run_effect : Files → ℕ → List ℕ → Effect
run_effect files budget input = runs (core_in files) budget input

-- the answers of `run`
abbrev pub IsRunOrStop : Answer → Type 0
IsRunOrStop Done = ⊥
IsRunOrStop Usage = ⊥
IsRunOrStop (Refused name refusal) = ⊥
IsRunOrStop (RefusedSource name refusal) = ⊥
IsRunOrStop (Cpp fault) = ⊥
IsRunOrStop (LinkRefused fault) = ⊥
IsRunOrStop _ = Unit {0}
