-- What a call did that obeyed a command, or words that say none: its answer, the files, the streams, the faults and the line.
use Rattle.std.specs.Prelude.{ℕ, List, Option, IfSome}
use Rattle.pw_io.specs.Files.{Told, Keeps}
use Rattle.pw_top_answer.specs.declared.answer.Answer.{Answer}
use Rattle.pw_top_answer.specs.Outcomes.{InputCount, LeavesStreams, OutputCount, StoreCount}
use Rattle.pw_law_session.specs.FromSession.FromBuildFiles.Genuine.{KeepsGenuine}
use Rattle.pw_top_words.specs.declared.commands.Command.{Command}
use Rattle.pw_top.specs.Answers.{HoldsNoWantOfMemory}
use Rattle.pw_top.specs.Commands.{BuildsFirst, EndsScript, IsNoSession, KeepsTheRest, OnlyReads}
use Rattle.pw_top.specs.Does.{DoesAs}
use Rattle.pw_top.specs.Telling.{IsLineTold, IsToldBy}

-- What the store, the input and the output tell, where they do, and how many faults each of them had.
pub record Outside : Type 0 where
  pub told : Option Told
  pub rest : Option (List ℕ)
  pub taken : Option (List ℕ)
  pub store_faults : ℕ
  pub input_faults : ℕ
  pub output_faults : ℕ

abbrev pub outside_of : (told : Option Told) (rest taken : Option (List ℕ)) (store input output : ℕ) → Outside
outside_of told rest taken store input output =
    record { told = told; rest = rest; taken = taken; store_faults = store; input_faults = input; output_faults = output }

-- The call did what the command comes to, and nothing besides; its line is the one that the answer tells.
pub record CarriesOut (command : Option Command) (answer : Answer) (number : Option ℕ) (old new : Outside) : Type 0 where
  pub does : IfSome old.told (λ told. IfSome old.rest (λ rest. DoesAs command answer told new.told rest new.rest old.taken new.taken))
  pub ends : EndsScript command old.rest answer
  pub built : IfSome old.told (λ told. BuildsFirst command answer told new.told)
  pub proper : HoldsNoWantOfMemory answer
  pub others : KeepsTheRest command old.rest answer old.told new.told
  pub genuine : IfSome old.told (λ told. KeepsGenuine told.files → IfSome new.told (λ now. KeepsGenuine now.files))
  pub reads : OnlyReads command → Keeps old.told new.told
  pub store : StoreCount old.store_faults new.store_faults answer
  pub read : InputCount old.input_faults new.input_faults answer
  pub write : OutputCount old.output_faults new.output_faults answer
  pub streams : IsNoSession command → LeavesStreams answer old.rest new.rest old.taken new.taken
  pub line : IfSome old.told (λ told. IsLineTold command told.files answer number)

-- The same of a call whose answer was told: what it did, an answer of the command says.
pub record CarriesOutTold (command : Option Command) (told_answer : Answer) (number : Option ℕ) (old new : Outside) : Type 0 where
  pub answer : Answer
  pub told : IfSome old.told (λ told. IsToldBy command told.files answer told_answer)
  pub does : IfSome old.told (λ told. IfSome old.rest (λ rest. DoesAs command answer told new.told rest new.rest old.taken new.taken))
  pub ends : EndsScript command old.rest told_answer
  pub built : IfSome old.told (λ told. BuildsFirst command answer told new.told)
  pub proper : HoldsNoWantOfMemory told_answer
  pub others : KeepsTheRest command old.rest told_answer old.told new.told
  pub genuine : IfSome old.told (λ told. KeepsGenuine told.files → IfSome new.told (λ now. KeepsGenuine now.files))
  pub reads : OnlyReads command → Keeps old.told new.told
  pub store : StoreCount old.store_faults new.store_faults told_answer
  pub read : InputCount old.input_faults new.input_faults told_answer
  pub write : OutputCount old.output_faults new.output_faults told_answer
  pub streams : IsNoSession command → LeavesStreams told_answer old.rest new.rest old.taken new.taken
  pub line : IfSome old.told (λ told. IsLineTold command told.files told_answer number)
