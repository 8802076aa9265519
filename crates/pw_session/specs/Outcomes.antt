-- What a session answers, puts out and leaves of the store and its input.
use Rattle.std.specs.Prelude.{◌≡◌, ℕ, ◌⊎◌, ◌+◌, ◌≤◌, suc, List, [], ◌++◌, length, Option, Some, None, IfSome, IsSomeAnd, Vec, option_map}
use Rattle.std.specs.declared.alloc.Global.{Global}
use Rattle.pw_io.specs.Files.{Files, Told}
use Rattle.pw_commands_cpp.specs.Telling.{TellsAnswer}
use Rattle.pw_top_answer.specs.declared.answer.Answer.{Answer}
use Rattle.pw_top_answer.specs.declared.answer.Answer.TheVariants.{Done, ReadFault, WriteFault, StoreFault, NoMemory, BadScript}
use Rattle.pw_top_answer.specs.Outcomes.{Answers, IsLineDue, IsPrintAnswer, PutsOut, StoreCount}
use Rattle.pw_top_answer.specs.Answers.{line_text}
use Rattle.pw_build_files.specs.FromBuild.BuildFault.{BuildFault}
use Rattle.pw_build_files.specs.FromBuild.BuildFault.TheVariants as build
use Rattle.pw_build_files.specs.FromBuild.Phases.{IsLine}
use Rattle.pw_build_files.specs.Outcomes.{HoldsImage, fault_answer}
use Rattle.pw_session_script.specs.declared.line.TakenLine.{TakenLine}
use Rattle.pw_session_script.specs.declared.line.ScriptFault.{ScriptFault}
use Rattle.pw_session_script.specs.declared.line.ScriptFault.TheVariants as script
use Rattle.pw_session_script.specs.declared.line.ScriptFault.TheVariants.{BadLine}
use Rattle.pw_session_script.specs.Reading.{IsReadInPart}
use Rattle.pw_session_script.specs.Script.{LineValue, first_line, taken_limit}
use Rattle.pw_build_opts.specs.declared.opts.RunOpts.{RunOpts}
use Rattle.pw_session.specs.declared.session.Turn.{Turn}
use Rattle.pw_session.specs.declared.session.Turn.TheVariants.{Over, Obeyed}
use Rattle.pw_session.specs.Changes.{Change, MakesChanges, after_changes}
use Rattle.pw_session.specs.Runs.{RunPrints}
use Rattle.pw_session.specs.Session.{LineEffect, Acts, Effects, LinesAct, ScriptLines, SessionState, bad_at, script_lines_from, script_lines, script_answer, session_start, with_line}

-- ---- the session

-- The output was put out and the changes were made; where something failed or memory ran out, a prefix of both.
pub record DoesEffect (output : List ℕ) (changes : List Change) (answer : Answer) (told : Told) (new : Option Told) (taken taken' : Option (List ℕ)) : Type 0 where
  pub said : PutsOut output answer taken taken'
  pub made : MakesChanges changes answer told new

-- what lines come to, and others behind them
abbrev pub both_effects : Effects → Effects → Effects
both_effects first later = record { output = first.output ++ later.output; changes = first.changes ++ later.changes }

-- A prefix of lines comes to what was put out and changed: to all the changes, and to the output. That of the lines before the
-- last was put out whole, and behind it that of the last, of which after a fault of the output a prefix was put out.
pub record PrefixActs (opts : RunOpts) (s : SessionState) (lines : List LineValue) (answer : Answer) (new : Option Told) (taken taken' : Option (List ℕ)) : Type 0 where
  pub before : List LineValue
  pub last : List LineValue
  pub more : List LineValue
  pub split : lines ≡ before ++ (last ++ more)
  pub one : length last ≤ 1
  pub first : Effects
  pub later : Effects
  pub acts : LinesAct opts s before first
  pub all : LinesAct opts s (before ++ last) (both_effects first later)
  pub between : Option (List ℕ)
  pub whole : PutsOut first.output Done taken between
  pub said : PutsOut later.output answer between taken'
  pub made : new ≡ Some (after_changes s.told (first.changes ++ later.changes))

-- The lines come to something, where no fault and no want of memory was answered. Where the input had a fault, a prefix of
-- them comes to exactly what was put out and changed; where the output had one, to what was changed, and to an output of
-- which the end of the last line's is missing.
abbrev pub IsSessionFound : RunOpts → SessionState → List LineValue → Answer → Option Told → Option (List ℕ) → Option (List ℕ) → Type 0
IsSessionFound opts s lines ReadFault new taken taken' = PrefixActs opts s lines Done new taken taken'
IsSessionFound opts s lines WriteFault new taken taken' = PrefixActs opts s lines WriteFault new taken taken'
IsSessionFound opts s lines StoreFault new taken taken' = Unit {0}
IsSessionFound opts s lines NoMemory new taken taken' = Unit {0}
IsSessionFound opts s lines _ new taken taken' = (e : Effects) × LinesAct opts s lines e

-- Lines of a script come to what was answered, put out and changed; a fault and want of memory may come in its place.
pub record ObeysLines (opts : RunOpts) (s : SessionState) (script : ScriptLines) (answer : Answer) (new : Option Told) (taken taken' : Option (List ℕ)) : Type 0 where
  pub answers : Answers (script_answer script.bad) answer
  pub does : (e : Effects) → LinesAct opts s script.lines e → DoesEffect e.output e.changes answer s.told new taken taken'
  pub found : IsSessionFound opts s script.lines answer new taken taken'

-- so does a session over its whole script
abbrev pub ObeysSession : RunOpts → Told → List ℕ → Answer → Option Told → Option (List ℕ) → Option (List ℕ) → Type 0
ObeysSession opts told script answer new taken taken' = ObeysLines opts (session_start told) (script_lines script) answer new taken taken'

-- the answers of a session
abbrev pub IsSessionAnswer : Answer → Type 0
IsSessionAnswer Done = Unit {0}
IsSessionAnswer ReadFault = Unit {0}
IsSessionAnswer WriteFault = Unit {0}
IsSessionAnswer StoreFault = Unit {0}
IsSessionAnswer NoMemory = Unit {0}
IsSessionAnswer (BadScript at) = Unit {0}
IsSessionAnswer _ = ⊥

-- How a session ends is a function of its script alone, whatever the store tells; a fault and want of memory may come in
-- place of that.
abbrev pub EndsAs : List ℕ → Answer → Type 0
EndsAs script answer = Answers (script_answer (script_lines script).bad) answer

-- A script that was taken to its end is read whole; else a prefix of it was read.
abbrev pub LeavesScript : List ℕ → Answer → Option (List ℕ) → Type 0
LeavesScript script Done new = new ≡ Some []
LeavesScript script _ new = IsReadInPart script new

-- ---- inside the session

-- the answers of one line, which is obeyed at `Done`
abbrev pub IsLineAnswer : Answer → Type 0
IsLineAnswer Done = Unit {0}
IsLineAnswer WriteFault = Unit {0}
IsLineAnswer StoreFault = Unit {0}
IsLineAnswer NoMemory = Unit {0}
IsLineAnswer _ = ⊥

abbrev pub image_view : Option (Vec ℕ Global) → Option (List ℕ)
image_view = option_map (λ image. image.items)

-- what is kept of the last build, if there was one, is the file of an image
abbrev pub KeepsImage : Option (List ℕ) → Type 0
KeepsImage image = IfSome image HoldsImage

-- the answers after which a line was obeyed, but perhaps for its output
abbrev pub IsLineObeyed : Answer → Type 0
IsLineObeyed Done = Unit {0}
IsLineObeyed WriteFault = Unit {0}
IsLineObeyed _ = ⊥

-- what a line does was put out and changed, and its image is kept
pub record ObeysLine (opts : RunOpts) (s : SessionState) (line : LineValue) (answer : Answer) (new : Option Told) (taken taken' : Option (List ℕ)) (image : Option (List ℕ)) : Type 0 where
  pub does : (effect : LineEffect) → Acts opts s line effect → DoesEffect effect.output effect.changes answer s.told new taken taken'
  pub keeps : (effect : LineEffect) → Acts opts s line effect → answer ≡ Done → image ≡ effect.image
  pub found : IsLineObeyed answer → (effect : LineEffect) × Acts opts s line effect × (new ≡ Some (after_changes s.told effect.changes))

-- what comes of a run was put out
pub record ObeysRun (built : Option (List ℕ)) (budget : ℕ) (input : List ℕ) (answer : Answer) (taken taken' : Option (List ℕ)) : Type 0 where
  pub output : (output : List ℕ) → RunPrints built budget input output → PutsOut output answer taken taken'
  pub found : IsLineObeyed answer → (output : List ℕ) × RunPrints built budget input output

-- The first line of what is left of a script was read and obeyed; or the session is over, as the lines that are left come to.
abbrev pub TakesTurn : RunOpts → SessionState → ℕ → List ℕ → Turn → Option Told → Option (List ℕ) → Option (List ℕ) → Option (List ℕ) → Option (List ℕ) → Type 0
TakesTurn opts s offset script (Over answer) new rest taken taken' image =
    (n : ℕ) → ObeysLines opts s (script_lines_from (suc n) offset script) answer new taken taken'
TakesTurn opts s offset script (Obeyed size) new rest taken taken' image =
    (line : LineValue) × (later : List ℕ) × (first_line script ≡ Some (line, later)) × (length script ≡ size + length later) × (rest ≡ Some later) × ObeysLine opts s line Done new taken taken' image

-- What a turn says of how the session ends, as what is left of the script says; or of the line that was obeyed, which stands
-- before those that are left behind it.
abbrev pub EndsTurn : ℕ → List ℕ → Turn → Option (List ℕ) → Type 0
EndsTurn offset script (Over answer) rest = (n : ℕ) → Answers (script_answer (script_lines_from (suc n) offset script).bad) answer
EndsTurn offset script (Obeyed size) rest = IsSomeAnd rest (λ later. (line : LineValue) × ((n : ℕ) → script_lines_from (suc n) offset script ≡ with_line line (script_lines_from n (offset + size) later)))

-- the answer of a turn: `Done` where its line was obeyed
abbrev pub turn_answer : Turn → Answer
turn_answer (Over answer) = answer
turn_answer (Obeyed size) = Done

-- a line that was read is obeyed, with the count of its bytes, or the session is over
abbrev pub IsLineTaken : TakenLine → Turn → Type 0
IsLineTaken taken (Over answer) = IsLineAnswer answer × (answer ≡ Done → ⊥)
IsLineTaken taken (Obeyed size) = size ≡ taken.length

-- how many bytes a line takes at most, and how a session ends
abbrev pub IsSessionTurn : Turn → Type 0
IsSessionTurn (Over answer) = IsSessionAnswer answer
IsSessionTurn (Obeyed size) = size ≤ taken_limit

-- where no line was read at an offset
abbrev pub unread : ScriptFault → ℕ → Answer
unread BadLine offset = BadScript offset
unread script.ReadFault offset = ReadFault
unread script.NoMemory offset = NoMemory

-- what a turn leaves of its script
abbrev pub LeavesTurn : List ℕ → Turn → Option (List ℕ) → Type 0
LeavesTurn script (Over answer) new = LeavesScript script answer new
LeavesTurn script (Obeyed size) new = Unit {0}

-- the answer at the end of a script that may have no further line
abbrev pub IsLastAnswer : ℕ → List ℕ → Answer → Type 0
IsLastAnswer offset script answer = Answers (script_answer (bad_at offset script)) answer

abbrev pub last_answer : Option ℕ → ℕ → Answer
last_answer None offset = Done
last_answer (Some byte) offset = BadScript offset

abbrev pub IsReadAnswer : Answer → Type 0
IsReadAnswer Done = Unit {0}
IsReadAnswer ReadFault = Unit {0}
IsReadAnswer (BadScript at) = Unit {0}
IsReadAnswer _ = ⊥

-- The output was left, and the store failed or memory ran out.
abbrev pub Leaves : Answer → Option (List ℕ) → Option (List ℕ) → Type 0
Leaves answer taken taken' = ((answer ≡ StoreFault) ⊎ (answer ≡ NoMemory)) × (taken' ≡ taken)

-- the line of what is told of a refusal was put out
pub record SaysTold (files : Files) (fault : BuildFault) (line : Option ℕ) (answer : Answer) (taken taken' : Option (List ℕ)) : Type 0 where
  pub told : Answer
  pub tells : TellsAnswer files (fault_answer fault) told
  pub number : Option ℕ
  pub due : (due : Option ℕ) → IsLine due fault line → IsLineDue due told number
  pub said : PutsOut (line_text number told) answer taken taken'
  pub print : IsPrintAnswer answer

-- what is told of a fault of a build: the line of a refusal; a fault of the store, and want of memory, are the answer
abbrev pub SaysFault : Files → BuildFault → Option ℕ → Answer → Option (List ℕ) → Option (List ℕ) → Type 0
SaysFault files build.StoreFault line answer taken taken' = (answer ≡ StoreFault) × (taken' ≡ taken)
SaysFault files build.NoMemory line answer taken taken' = (answer ≡ NoMemory) × (taken' ≡ taken)
SaysFault files fault line answer taken taken' = Leaves answer taken taken' ⊎ SaysTold files fault line answer taken taken'

-- the same of a reply
abbrev pub SaysReply : Answer → Option ℕ → Answer → Option (List ℕ) → Option (List ℕ) → Type 0
SaysReply StoreFault line answer taken taken' = (answer ≡ StoreFault) × (taken' ≡ taken)
SaysReply NoMemory line answer taken taken' = (answer ≡ NoMemory) × (taken' ≡ taken)
SaysReply reply line answer taken taken' = PutsOut (line_text line reply) answer taken taken' × IsPrintAnswer answer

-- a fault of the store is answered only where the reply is one
abbrev pub StoresAlike : Answer → Answer → Type 0
StoresAlike reply answer = (before now : ℕ) → StoreCount before now reply → StoreCount before now answer
