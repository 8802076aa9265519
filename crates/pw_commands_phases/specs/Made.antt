-- Inside the commands: what is made of what was read, or the reply in its place.
use Rattle.std.specs.Prelude.{◌≡◌, ℕ, Bool, List, Option, Some, None, Result, Ok, Err, Vec}
use Rattle.std.specs.declared.alloc.Global.{Global}
use Rattle.pw_front_end.specs.Fronts.{HoldsNoWant}
use Rattle.pw_front_end.specs.Places.{refusal_line}
use Rattle.pw_front_end.specs.declared.refusal.FrontEndFault.{FrontEndFault}
use Rattle.pw_front_end.specs.declared.refusal.FrontEndFault.TheVariants as front
use Rattle.pw_flow.specs.declared.flow.FlowModule.{FlowModule}
use Rattle.pw_db.specs.declared.database.Directives.{Directives}
use Rattle.pw_phase_one.specs.FirstPhase.{Phase}
use Rattle.pw_top_answer.specs.declared.answer.Answer.{Answer}
use Rattle.pw_top_answer.specs.declared.answer.Answer.TheVariants.{Done, Refused, RefusedSource, Cpp, StoreFault, NoMemory, BadFile}
use Rattle.pw_commands_cpp.specs.Steps.{IsCppStop}
use Rattle.pw_commands_phases.specs.declared.texts.MadeFiles.{MadeFiles}
use Rattle.pw_commands_phases.specs.First.{AreFormBytes}
use Rattle.pw_commands_phases.specs.Second.{IsFileOfFlow}

-- the answers of `phase1`; a refusal is none for want of memory
abbrev pub IsPhaseAnswer : Answer → Type 0
IsPhaseAnswer Done = Unit {0}
IsPhaseAnswer (Refused name refusal) = HoldsNoWant refusal
IsPhaseAnswer (RefusedSource name refusal) = HoldsNoWant refusal
IsPhaseAnswer (Cpp fault) = IsCppStop (Cpp fault)
IsPhaseAnswer StoreFault = Unit {0}
IsPhaseAnswer NoMemory = Unit {0}
IsPhaseAnswer (BadFile name at) = Unit {0}
IsPhaseAnswer _ = ⊥

-- those over a text
abbrev pub IsTextAnswer : Answer → Type 0
IsTextAnswer Done = Unit {0}
IsTextAnswer (Refused name refusal) = HoldsNoWant refusal
IsTextAnswer StoreFault = Unit {0}
IsTextAnswer NoMemory = Unit {0}
IsTextAnswer (BadFile name at) = Unit {0}
IsTextAnswer _ = ⊥

-- what is told of a C source's output in the place of an answer over a text
abbrev pub source_answer : Answer → Answer
source_answer (Refused name refusal) = RefusedSource name refusal
source_answer answer = answer

-- those of a text that was read and comes to no files
abbrev pub IsTextStop : Answer → Type 0
IsTextStop (Refused name refusal) = HoldsNoWant refusal
IsTextStop NoMemory = Unit {0}
IsTextStop _ = ⊥

-- ---- the first phase

-- the files of what the phase answers
abbrev pub AreOfPhase : Bool → Phase → List ℕ → List ℕ → Type 0
AreOfPhase optimise (Ok flow) bytes sum = AreFormBytes optimise flow bytes sum
AreOfPhase optimise (Err refusal) bytes sum = ⊥

-- the refusal that the phase answers
abbrev pub RefusesPhase : List ℕ → Phase → Answer → Type 0
RefusesPhase name (Ok flow) answer = ⊥
RefusesPhase name (Err refusal) answer = answer ≡ Refused name refusal

-- the same; want of memory may come in its place
abbrev pub AnswersPhase : List ℕ → Phase → Answer → Type 0
AnswersPhase name phase NoMemory = Unit {0}
AnswersPhase name phase answer = RefusesPhase name phase answer

-- the files that are made of what the phase answers, or the answer in their place
abbrev pub MakesOfPhase : List ℕ → Bool → Phase → Result MadeFiles Answer → Type 0
MakesOfPhase name optimise phase (Ok made) = AreOfPhase optimise phase made.flow.items made.sum.items
MakesOfPhase name optimise phase (Err answer) = AnswersPhase name phase answer

-- how a refusal or want of memory of the phase is told
abbrev pub TellsError : List ℕ → FrontEndFault → Answer → Type 0
TellsError name front.NoMemory answer = answer ≡ NoMemory
TellsError name (front.Refused refusal) answer = answer ≡ Refused name refusal

-- the line of an answer, in the text of its module
abbrev pub line_of : List ℕ → Answer → Option ℕ
line_of text (Refused name refusal) = Some (refusal_line text refusal)
line_of text _ = None

-- an answer is told with its line; want of memory may come in its place
abbrev pub TellsReply : List ℕ → Answer → Answer → Option ℕ → Type 0
TellsReply text wanted NoMemory line = Unit {0}
TellsReply text wanted answer line = (answer ≡ wanted) × (line ≡ line_of text wanted)

-- ---- the second phase

-- the file of what the flow graph and the database are
abbrev pub IsOfFlow : Result FlowModule Answer → Result (List (List ℕ × Directives)) Answer → List ℕ → Type 0
IsOfFlow (Ok flow) (Ok db) bytes = IsFileOfFlow flow db bytes
IsOfFlow (Ok flow) (Err answer) bytes = ⊥
IsOfFlow (Err answer) db bytes = ⊥

-- the answer where one of them is absent or refused
abbrev pub AnswersFlow : Result FlowModule Answer → Result (List (List ℕ × Directives)) Answer → Answer → Type 0
AnswersFlow (Err wanted) db answer = answer ≡ wanted
AnswersFlow (Ok flow) (Err wanted) answer = answer ≡ wanted
AnswersFlow (Ok flow) (Ok db) answer = ⊥

abbrev pub MakesObject : Result FlowModule Answer → Result (List (List ℕ × Directives)) Answer → Result (Vec ℕ Global) Answer → Type 0
MakesObject flow db (Ok bytes) = IsOfFlow flow db bytes.items
MakesObject flow db (Err StoreFault) = Unit {0}
MakesObject flow db (Err NoMemory) = Unit {0}
MakesObject flow db (Err answer) = AnswersFlow flow db answer
