-- What a run of linked modules by the meaning of C is answered as, and the line of the answer.
use Rattle.std.specs.Prelude.{◌≡◌, ◌⊎◌, ℕ, if◌then◌else◌, IfSome, List, [], ◌∷◌, drop, map, Option, Some, None, Result, Ok, Err}
use Rattle.std.specs.Str.{bytes_eq}
use Rattle.pw_token.specs.Places.{line_at}
use Rattle.pw_front_end.specs.Places.{token_place}
use Rattle.pw_build_files.specs.FromBuild.FirstPhase.{typed_text}
use Rattle.pw_cmean.specs.Worlds.{Program, ProgramModule}
use Rattle.pw_cmean.specs.Acts as acts
use Rattle.pw_cmean.specs.SourceRun.{Run, source_run}
use Rattle.pw_interp_calls.specs.Frames.{frame_among}
use Rattle.pw_interp.specs.Ends.{view_end}
use Rattle.pw_interp.specs.declared.ends.CEnd.{CEnd}
use Rattle.pw_interp.specs.declared.ends.InterpFault.{InterpFault}
use Rattle.pw_interp.specs.declared.ends.InterpFault.TheVariants as interp
use Rattle.pw_image.specs.declared.image.Image.{Image}
use Rattle.pw_image.specs.Image.{Contents, IsImageFile}
use Rattle.pw_store_modules.specs.Modules.{Source}
use Rattle.pw_top_answer.specs.declared.answer.Answer.{Answer}
use Rattle.pw_top_answer.specs.declared.answer.Answer.TheVariants.{Ended, StackStop, Spent, ReadFault, WriteFault, NoMemory, Undefined}
use Rattle.pw_top_answer.specs.declared.answer.Reply.{Reply}
use Rattle.pw_top_answer.specs.Outcomes.{Answers, LeavesInput, PutsOut}
use Rattle.pw_build_opts.specs.declared.opts.RunOpts.{RunOpts}

-- ---- the program

-- of each module the one with its name and its text's typed tree, in their order
abbrev pub AreTyped : List Source → List ProgramModule → Type 0
AreTyped [] [] = Unit {0}
AreTyped (source ∷ sources) (m ∷ ms) = (m.name ≡ source.0) × (typed_text source.1 ≡ Ok m.tree) × AreTyped sources ms
AreTyped sources ms = ⊥

-- of a function in a map its full name and its frame
abbrev pub frame_in : List ℕ × ℕ × ℕ → List ℕ × ℕ
frame_in f = (f.0, f.2)

-- the frames of an image's functions, by their full names
abbrev pub frames_of : Image → List (List ℕ × ℕ)
frames_of v = map (λ f. (f.name, f.frame)) v.functions

-- How the end of a run is answered. No accepted program goes wrong.
abbrev pub end_answer : acts.Ending → Answer
end_answer (acts.Exit status) = Ended status
end_answer acts.StackFull = StackStop
end_answer acts.Bound = Spent
end_answer (acts.Undefined operation home token) = Undefined operation home token
end_answer acts.Wrong = NoMemory

-- ---- what is answered

-- the answers to a run
abbrev pub IsRunAnswer : Answer → Type 0
IsRunAnswer (Ended status) = Unit {0}
IsRunAnswer StackStop = Unit {0}
IsRunAnswer Spent = Unit {0}
IsRunAnswer ReadFault = Unit {0}
IsRunAnswer WriteFault = Unit {0}
IsRunAnswer NoMemory = Unit {0}
IsRunAnswer (Undefined operation name token) = Unit {0}
IsRunAnswer _ = ⊥

-- why a run was given up, as the answer
abbrev pub given_up : InterpFault → Answer
given_up interp.ReadFault = ReadFault
given_up interp.WriteFault = WriteFault
given_up interp.NoMemory = NoMemory

-- what a run came to, as the answer
abbrev pub answer_of : Result CEnd InterpFault → Answer
answer_of (Ok end) = end_answer (view_end end)
answer_of (Err fault) = given_up fault

-- A run was answered so, and left that of its input and output.
pub record RanAs (run : Run) (bytes : List ℕ) (answer : Answer) (rest' taken taken' : Option (List ℕ)) : Type 0 where
  pub answers : Answers (end_answer run.end) answer
  pub output : PutsOut run.out answer taken taken'
  pub rest : LeavesInput (drop run.read bytes) bytes answer rest'

-- the same of a program's run, of a source that tells its bytes
abbrev pub RunsAs : Program → (List ℕ → ℕ) → RunOpts → Option (List ℕ) → Answer → Option (List ℕ) → Option (List ℕ) → Option (List ℕ) → Type 0
RunsAs program frame_of opts rest answer rest' taken taken' =
    IfSome rest (λ bytes. RanAs (source_run program frame_of opts.build.stack bytes opts.budget) bytes answer rest' taken taken')

-- the same of modules that were linked to an image
abbrev pub RunsLinked : List Source → List ℕ → RunOpts → Option (List ℕ) → Answer → Option (List ℕ) → Option (List ℕ) → Option (List ℕ) → Type 0
RunsLinked sources image opts rest answer rest' taken taken' =
    (c : Contents Image) (modules : List ProgramModule) → IsImageFile image c → AreTyped sources modules
    → RunsAs (record { modules = modules }) (frame_among (frames_of c.value)) opts rest answer rest' taken taken'

-- a fact, but where memory ran out
abbrev pub UnlessMemory : Answer → Type 0 → Type 0
UnlessMemory NoMemory P = Unit {0}
UnlessMemory _ P = P

-- ---- the line

-- the answer to a run whose line is that of a token
abbrev pub TellsToken : Answer → Type 0
TellsToken (Undefined operation name token) = Unit {0}
TellsToken _ = ⊥

-- the line of a token in the text of the module of a name
abbrev pub token_line : List Source → List ℕ → ℕ → Option ℕ
token_line [] name token = None
token_line (source ∷ sources) name token = if bytes_eq source.0 name then Some (line_at source.1 (token_place source.1 token)) else token_line sources name token

-- the line of an answer to a run
abbrev pub run_line : List Source → Answer → Option ℕ
run_line sources (Undefined operation name token) = token_line sources name token
run_line sources _ = None

-- the answer with its line, or want of memory for that
abbrev pub RepliesTo : List Source → Answer → Reply → Type 0
RepliesTo sources answer reply = ((reply.answer ≡ answer) × (reply.line ≡ run_line sources answer)) ⊎ ((reply.answer ≡ NoMemory) × TellsToken answer)
