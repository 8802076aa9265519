-- What a call that ran a program answered, put out and read, as what the program does in C.
use Rattle.std.specs.Prelude.{◌≡◌, ℕ, ◌<◌, ◌-◌, List, ◌++◌, length, Option, Some, Ok}
use Rattle.pw_io.specs.Files.{Files}
use Rattle.pw_io.specs.Streams.{Appends}
use Rattle.pw_image.specs.declared.image.Image.{Image}
use Rattle.pw_image.specs.Image.{Contents, IsImageFile}
use Rattle.pw_store_modules.specs.Modules.{Texts, module_map}
use Rattle.pw_store_texts.specs.Seen.{IsSeen}
use Rattle.pw_cmean.specs.Worlds.{Program}
use Rattle.pw_run_agreement.specs.Agreement.{SourceEnd, SourceRun, Ends, Stack, IsMeaningful}
use Rattle.pw_top_answer.specs.declared.answer.Answer.{Answer}
use Rattle.pw_top_answer.specs.declared.answer.Answer.TheVariants.{Ended, StackStop, Spent, Halted, ReadFault, WriteFault}
use Rattle.pw_build_opts.specs.declared.opts.RunOpts.{RunOpts}
use Rattle.pw_law_session.specs.FromSession.FromBuildFiles.Full.{BuildsImage}
use Rattle.pw_law_session.specs.FromMeaning.FromLawWhole.FromLayers.Whole.{FramesFit}
use Rattle.pw_law_session.specs.FromMeaning.FromLawWhole.Programs.{IsProgramOf}
use Rattle.pw_law_session.specs.FromMeaning.Meaning.{runs_of}

-- the answers to a run, a fault of its input or output among them
abbrev pub WasRun : Answer → Type 0
WasRun (Ended status) = Unit {0}
WasRun StackStop = Unit {0}
WasRun Spent = Unit {0}
WasRun (Halted halt at) = Unit {0}
WasRun ReadFault = Unit {0}
WasRun WriteFault = Unit {0}
WasRun _ = ⊥

-- The program's run ends so; all that it puts out was put out, and as many bytes of the input were read.
pub record EndsAsRun (run : SourceRun) (how : SourceEnd) (input : List ℕ) (input' taken taken' : Option (List ℕ)) : Type 0 where
  pub end : run.end ≡ how
  pub output : Appends taken taken' run.output
  pub left : List ℕ
  pub rest : input' ≡ Some left
  pub read : run.read ≡ length input - length left

-- a prefix of what the program's run puts out was put out
pub record PutsFront (run : SourceRun) (taken taken' : Option (List ℕ)) : Type 0 where
  pub front : List ℕ
  pub more : List ℕ
  pub whole : run.output ≡ front ++ more
  pub put : Appends taken taken' front

-- An end, and a stop for want of stack, are those of the program's run; the machine did not halt; and where the budget was spent,
-- or the input or the output had a fault, a prefix was put out.
abbrev pub AnswersRun : SourceRun → Answer → (input : List ℕ) → (input' taken taken' : Option (List ℕ)) → Type 0
AnswersRun run (Ended status) input input' taken taken' = EndsAsRun run (Ends status) input input' taken taken'
AnswersRun run StackStop input input' taken taken' = EndsAsRun run Stack input input' taken taken'
AnswersRun run (Halted halt at) input input' taken taken' = ⊥
AnswersRun run _ input input' taken taken' = PutsFront run taken taken'

-- The texts are a C program, and what was answered, put out and read is what its run on the input does within each bound that is
-- larger than the budget and within which it meets no undefined operation. A call of a function takes the stack that this has in
-- the image of the full build, which is no more than its declarations say.
pub record AnswersProgram (texts : Texts) (opts : RunOpts) (answer : Answer) (input : List ℕ) (input' taken taken' : Option (List ℕ)) : Type 0 where
  pub program : Program
  pub of_texts : IsProgramOf texts program
  pub bytes : List ℕ
  pub builds : BuildsImage texts opts.build (Ok bytes)
  pub contents : Contents Image
  pub file : IsImageFile bytes contents
  pub fit : FramesFit program contents.value
  pub does : (bound : ℕ) → opts.budget < bound → IsMeaningful (runs_of program contents.value opts.build.stack input bound).end →
      AnswersRun (runs_of program contents.value opts.build.stack input bound) answer input input' taken taken'

-- the same of the modules of a store as a build sees them
abbrev pub AnswersSeen : Files → RunOpts → Answer → (input : List ℕ) → (input' taken taken' : Option (List ℕ)) → Type 0
AnswersSeen files opts answer input input' taken taken' =
    (shown : Files) × IsSeen files shown × AnswersProgram (module_map shown) opts answer input input' taken taken'
