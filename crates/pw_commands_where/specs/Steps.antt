-- Inside the command: what a look at a program that was built answered and put out.
use Rattle.std.specs.Prelude.{◌≡◌, ℕ, List, [], Option}
use Rattle.pw_object.specs.declared.object.Object.{Object}
use Rattle.pw_where.specs.declared.looking.Look.{Look}
use Rattle.pw_where.specs.declared.looking.Look.TheVariants.{Lines, LostAt, StoppedAs}
use Rattle.pw_top_answer.specs.declared.answer.Answer.{Answer}
use Rattle.pw_top_answer.specs.declared.answer.Answer.TheVariants.{NoFrames}
use Rattle.pw_top_answer.specs.Effects.{Effect}
use Rattle.pw_top_answer.specs.Outcomes.{Answers, IsPrintAnswer, LeavesInput, PutsOut}
use Rattle.pw_commands.specs.MachineRun.{stop_answer}
use Rattle.pw_commands.specs.Outcome.{IsFound}
use Rattle.pw_commands_where.specs.Showing.{FileEffect}

-- how a look is answered; the lines are put out then
abbrev pub TellsLook : Look → Answer → Type 0
TellsLook (Lines text) answer = IsPrintAnswer answer
TellsLook (LostAt address) answer = answer ≡ NoFrames address
TellsLook (StoppedAs stop) answer = answer ≡ stop_answer stop

-- what is put out of it
abbrev pub PutsLook : Look → Answer → (taken taken' : Option (List ℕ)) → Type 0
PutsLook (Lines text) answer taken taken' = PutsOut text.items answer taken taken'
PutsLook look answer taken taken' = taken' ≡ taken

-- The look at the image in this file was answered and put out, and its rest of the input left.
pub record LooksAtFile (bytes : List ℕ) (objects : List Object) (k budget : ℕ) (input : List ℕ) (answer : Answer) (input' taken taken' : Option (List ℕ)) : Type 0 where
  pub answers : (effect : Effect) → FileEffect bytes objects k budget input [] effect → Answers effect.answer answer
  pub output : (effect : Effect) → FileEffect bytes objects k budget input [] effect → PutsOut effect.output answer taken taken'
  pub rest : (effect : Effect) → FileEffect bytes objects k budget input [] effect → LeavesInput effect.rest input answer input'
  pub found : IsFound (FileEffect bytes objects k budget input []) answer
