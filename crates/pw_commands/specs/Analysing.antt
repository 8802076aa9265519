-- What `analyse` comes to: the database of the modules' summaries.
use Rattle.std.specs.Prelude.{◌≡◌, ℕ, ◌⊎◌, List, [], ◌∷◌, Result, Ok, Err, Vec}
use Rattle.std.specs.declared.alloc.Global.{Global}
use Rattle.pw_io.specs.Files.{Files}
use Rattle.pw_value.specs.declared.fault.LinkFault.{LinkFault}
use Rattle.pw_files.specs.Contents.{value_of}
use Rattle.pw_summary.specs.declared.summary.Summary.{Summary}
use Rattle.pw_summary_file.specs.Reading.{summary_file_at}
use Rattle.pw_db.specs.declared.database.Directives.{Directives}
use Rattle.pw_db_file.specs.Spelling.{IsNewFile}
use Rattle.pw_graph.specs.Program.{AreLinked, AreRefused}
use Rattle.pw_colour.specs.Colours.{IsDatabaseOf}
use Rattle.pw_store_modules.specs.FileNames.{database_name, summary_ending}
use Rattle.pw_top_answer.specs.declared.answer.Answer.{Answer}
use Rattle.pw_top_answer.specs.declared.answer.Answer.TheVariants.{LinkRefused, StoreFault, NoMemory}
use Rattle.pw_top_answer.specs.Effects.{Effect, answers_alone, puts_files}
use Rattle.pw_commands.specs.Linking.{few_names, of_names}

-- what stands in a summary's file
abbrev pub summary_at : List ℕ → Result Summary ℕ
summary_at bytes = value_of (summary_file_at bytes)

-- the summaries of all modules; or that there are too many modules, or the first summary's file that is absent or refused
abbrev pub summaries_of : Files → Result (List Summary) Answer
summaries_of files = of_names summary_at summary_ending files (few_names files)

-- the file of the database of summaries
abbrev pub IsDatabaseFileOf : List Summary → ℕ → List ℕ → Type 0
IsDatabaseFileOf summaries colours bytes = (db : List (List ℕ × Directives)) × IsDatabaseOf summaries colours db × IsNewFile bytes db

-- summaries come to their database, which is put, or to the refusal that is due
abbrev pub EffectOfSummaries : List Summary → ℕ → List ℕ → Effect → Type 0
EffectOfSummaries summaries colours input effect =
    ((fault : LinkFault) × AreRefused summaries fault × (effect ≡ answers_alone (LinkRefused fault) input))
    ⊎ (AreLinked summaries × ((bytes : List ℕ) × IsDatabaseFileOf summaries colours bytes × (effect ≡ puts_files ((database_name, bytes) ∷ []) input)))

abbrev pub AnalyseOver : Result (List Summary) Answer → ℕ → List ℕ → Effect → Type 0
AnalyseOver (Err answer) colours input effect = effect ≡ answers_alone answer input
AnalyseOver (Ok summaries) colours input effect = EffectOfSummaries summaries colours input effect

-- `analyse` over a store's files, with so many registers for webs
abbrev pub AnalyseEffect : Files → ℕ → List ℕ → Effect → Type 0
AnalyseEffect files colours input effect = AnalyseOver (summaries_of files) colours input effect

-- ---- inside the command

-- the database's file, or the answer in its place
abbrev pub AnalysesInto : List Summary → ℕ → Result (Vec ℕ Global) Answer → Type 0
AnalysesInto summaries colours (Ok bytes) = AreLinked summaries × IsDatabaseFileOf summaries colours bytes.items
AnalysesInto summaries colours (Err NoMemory) = Unit {0}
AnalysesInto summaries colours (Err (LinkRefused fault)) = AreRefused summaries fault
AnalysesInto summaries colours (Err _) = ⊥

-- the file of the database of the summaries that are wanted
abbrev pub AnalysedFile : Result (List Summary) Answer → ℕ → List ℕ → Type 0
AnalysedFile (Ok summaries) colours bytes = AreLinked summaries × IsDatabaseFileOf summaries colours bytes
AnalysedFile (Err refusal) colours bytes = ⊥

-- the refusal of the summaries that are wanted, or that in their place
abbrev pub RefusesSummaries : Result (List Summary) Answer → Answer → Type 0
RefusesSummaries (Ok summaries) (LinkRefused fault) = AreRefused summaries fault
RefusesSummaries (Ok summaries) _ = ⊥
RefusesSummaries (Err refusal) answer = answer ≡ refusal

abbrev pub AnalysesOver : Result (List Summary) Answer → ℕ → Result (Vec ℕ Global) Answer → Type 0
AnalysesOver wanted colours (Ok bytes) = AnalysedFile wanted colours bytes.items
AnalysesOver wanted colours (Err StoreFault) = Unit {0}
AnalysesOver wanted colours (Err NoMemory) = Unit {0}
AnalysesOver wanted colours (Err answer) = RefusesSummaries wanted answer
