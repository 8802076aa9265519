-- The run of an image, as a session and `bench` tell it.
use Rattle.std.specs.Prelude.{◌≡◌, ℕ, Bool, true, false, List, [], ◌++◌, codes, Option, Some, None}
use Rattle.std.specs.Fmt.{decimal}
use Rattle.pw_image.specs.declared.image.Image.{Image}
use Rattle.pw_image.specs.Image.{Contents, IsImageFile}
use Rattle.pw_machine.specs.Core.{Core}
use Rattle.pw_machine.specs.Run.{Progress, run_of}
use Rattle.pw_machine.specs.Start.{image_start}
use Rattle.pw_top_answer.specs.declared.answer.Answer.{Answer}
use Rattle.pw_top_answer.specs.declared.answer.Answer.TheVariants.{Ended, StackStop, Spent, Halted}
use Rattle.pw_top_answer.specs.Answers.{halt_name}
use Rattle.pw_commands.specs.MachineRun.{run_answer, run_output, start_state}

-- how a run stopped, by its answer
abbrev pub stop_text : Answer → List ℕ
stop_text (Ended status) = codes "Ended " ++ decimal status
stop_text StackStop = codes "StackStop"
stop_text Spent = codes "Spent"
stop_text (Halted halt at) = codes "Halted " ++ halt_name halt ++ codes " " ++ decimal at
stop_text _ = []

-- the same in brackets, on a line
abbrev pub stop_line : Answer → List ℕ
stop_line answer = codes "[" ++ stop_text answer ++ codes "]\n"

-- the output of a run, and directly behind it how the run stopped
abbrev pub ran_text : Progress → List ℕ
ran_text progress = run_output progress ++ stop_line (run_answer progress)

-- the run of a program for at most so many instructions over an input
abbrev pub runs_as : ℕ → List ℕ → Core → Progress
runs_as budget input core = run_of budget (start_state core input)

-- what comes of the run of the image that was built last: its output and how it stopped; where there is none, a line of that
abbrev pub RunPrints : Option (List ℕ) → ℕ → List ℕ → List ℕ → Type 0
RunPrints None budget input output = output ≡ codes "no image\n"
RunPrints (Some image) budget input output = (c : Contents Image) × IsImageFile image c × (output ≡ ran_text (runs_as budget input (image_start c.value.memory)))

-- ---- inside

-- it answers the stop of a run
abbrev pub is_stop : Answer → Bool
is_stop (Ended status) = true
is_stop StackStop = true
is_stop Spent = true
is_stop (Halted halt at) = true
is_stop _ = false
