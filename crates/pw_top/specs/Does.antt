-- What each command comes to over a store's files and an input, where nothing fails, and what a call answered, put, put out and
-- left of its input by that.
use Rattle.std.specs.Prelude.{◌≡◌, ℕ, List, Option, Some, None}
use Rattle.pw_io.specs.Files.{Told}
use Rattle.pw_top_answer.specs.declared.answer.Answer.{Answer}
use Rattle.pw_top_answer.specs.declared.answer.Answer.TheVariants.{Usage}
use Rattle.pw_top_answer.specs.Effects.{Effect, PutsFiles, answers_alone}
use Rattle.pw_top_answer.specs.Outcomes.{Answers, LeavesInput, PutsOut}
use Rattle.pw_go.specs.Going.{GoEffect}
use Rattle.pw_commands_where.specs.Showing.{WhereEffect}
use Rattle.pw_commands.specs.Analysing.{AnalyseEffect}
use Rattle.pw_commands.specs.Linking.{LinkEffect}
use Rattle.pw_commands.specs.Outcome.{IsFound}
use Rattle.pw_commands.specs.Running.{run_effect}
use Rattle.pw_commands.specs.Showing.{DatabaseEffect, ListEffect}
use Rattle.pw_commands_cpp.specs.Command.{CppEffect}
use Rattle.pw_commands_interp.specs.Interpreting.{InterpEffect}
use Rattle.pw_commands_phases.specs.First.{PhaseOneEffect}
use Rattle.pw_commands_phases.specs.Second.{PhaseTwoEffect}
use Rattle.pw_law_session.specs.FromSession.FromBuildFiles.Driving.{BuildEffect}
use Rattle.pw_build_opts.specs.declared.opts.RunOpts.{RunOpts}
use Rattle.pw_law_session.specs.FromSession.Bench.{BenchEffect}
use Rattle.pw_law_session.specs.FromSession.Outcomes.{LeavesScript, ObeysSession}
use Rattle.pw_top_words.specs.declared.commands.Command.{Command}
use Rattle.pw_top_words.specs.declared.commands.Command.TheVariants.{Go, Build, Session, PhaseOne, Analyse, PhaseTwo, Link, Run, List as ListImage, Db, Bench, Where, Preprocess, Interp}

-- The answer, the files that were put, what was put out and what is left of the input are those to which the command
-- comes; a fault or want of memory may come in its place, and then a prefix of the files was put, a prefix of the output
-- was put out, and no more was read than the command reads.
pub record Does (comes : Effect → Type 0) (answer : Answer) (told : Told) (told' : Option Told) (input : List ℕ) (input' taken taken' : Option (List ℕ)) : Type 0 where
  pub answers : (effect : Effect) → comes effect → Answers effect.answer answer
  pub puts : (effect : Effect) → comes effect → PutsFiles effect.puts answer told told'
  pub output : (effect : Effect) → comes effect → PutsOut effect.output answer taken taken'
  pub rest : (effect : Effect) → comes effect → LeavesInput effect.rest input answer input'
  pub found : IsFound comes answer

-- What a session answered, put out, changed and left of its script is that to which the script's lines come.
pub record DoesSession (opts : RunOpts) (answer : Answer) (told : Told) (told' : Option Told) (input : List ℕ) (input' taken taken' : Option (List ℕ)) : Type 0 where
  pub obeys : ObeysSession opts told input answer told' taken taken'
  pub rest : LeavesScript input answer input'

-- What a command, or words that say none, did.
abbrev pub DoesAs : Option Command → Answer → Told → Option Told → List ℕ → Option (List ℕ) → Option (List ℕ) → Option (List ℕ) → Type 0
DoesAs None answer told told' input input' taken taken' = Does (λ effect. effect ≡ answers_alone Usage input) answer told told' input input' taken taken'
DoesAs (Some (Go opts)) answer told told' input input' taken taken' = Does (GoEffect told.files opts input) answer told told' input input' taken taken'
DoesAs (Some (Where k opts)) answer told told' input input' taken taken' = Does (WhereEffect told.files opts k input) answer told told' input input' taken taken'
DoesAs (Some (Interp opts)) answer told told' input input' taken taken' = Does (InterpEffect told.files opts input) answer told told' input input' taken taken'
DoesAs (Some (Build opts)) answer told told' input input' taken taken' = Does (BuildEffect told.files opts input) answer told told' input input' taken taken'
DoesAs (Some (Session opts)) answer told told' input input' taken taken' = DoesSession opts answer told told' input input' taken taken'
DoesAs (Some (Bench number opts)) answer told told' input input' taken taken' = Does (BenchEffect number opts input) answer told told' input input' taken taken'
DoesAs (Some (Preprocess name)) answer told told' input input' taken taken' = Does (CppEffect told.files name input) answer told told' input input' taken taken'
DoesAs (Some (PhaseOne name optimise)) answer told told' input input' taken taken' = Does (PhaseOneEffect told.files name optimise input) answer told told' input input' taken taken'
DoesAs (Some (Analyse colours)) answer told told' input input' taken taken' = Does (AnalyseEffect told.files colours input) answer told told' input input' taken taken'
DoesAs (Some (PhaseTwo name)) answer told told' input input' taken taken' = Does (PhaseTwoEffect told.files name input) answer told told' input input' taken taken'
DoesAs (Some (Link stack)) answer told told' input input' taken taken' = Does (LinkEffect told.files stack input) answer told told' input input' taken taken'
DoesAs (Some (Run steps)) answer told told' input input' taken taken' = Does (λ effect. effect ≡ run_effect told.files steps input) answer told told' input input' taken taken'
DoesAs (Some ListImage) answer told told' input input' taken taken' = Does (ListEffect told.files input) answer told told' input input' taken taken'
DoesAs (Some Db) answer told told' input input' taken taken' = Does (DatabaseEffect told.files input) answer told told' input input' taken taken'
