-- Kinds of commands, and what each leaves alone.
use Rattle.std.specs.Prelude.{ℕ, Bool, true, false, List, [], ◌∷◌, Option, Some, IfSome, IsSomeAnd, ◌↔◌}
use Rattle.pw_io.specs.Files.{Files, Told}
use Rattle.pw_store_modules.specs.FileNames.{database_name, image_name}
use Rattle.pw_top_answer.specs.declared.answer.Answer.{Answer}
use Rattle.pw_top_answer.specs.Outcomes.{IsNoRefusal}
use Rattle.pw_store_modules.specs.Modules.{modules_of}
use Rattle.pw_store_texts.specs.Seen.{IsSeen}
use Rattle.pw_commands.specs.Others.{KeepsOthers}
use Rattle.pw_law_session.specs.FromSession.FromBuildFiles.Genuine.{KeepsGenuine}
use Rattle.pw_law_session.specs.FromSession.Changes.{MakesSome}
use Rattle.pw_law_session.specs.FromSession.Outcomes.{EndsAs}
use Rattle.pw_law_session.specs.FromSession.Removals.{MayRemove}
use Rattle.pw_law_session.specs.FromSession.FromBuildFiles.Driving.{KeepsUnput}
use Rattle.pw_build_opts.specs.declared.opts.Opts.{Opts}
use Rattle.pw_go.specs.Going.{HasBuilt}
use Rattle.pw_law_session.specs.FromBuildLaws.Complete.{CanBeBuilt}
use Rattle.pw_law_session.specs.Full.{SessionBuildsInFull}
use Rattle.pw_top.specs.Rest.{LeavesRest}
use Rattle.pw_top.specs.Whole.{BenchesFull, ComesInFull, IfMade, InterpretsFull, ReportsFull, RunsFull}
use Rattle.pw_commands_cpp.specs.Command.{cpp_puts}
use Rattle.pw_commands_phases.specs.First.{phase_one_puts}
use Rattle.pw_commands_phases.specs.Second.{phase_two_puts}
use Rattle.pw_top_words.specs.declared.commands.Command.{Command}
use Rattle.pw_top_words.specs.declared.commands.Command.TheVariants.{Go, Build, Session, PhaseOne, Analyse, PhaseTwo, Link, Run, List as ListImage, Db, Bench, Where, Preprocess, Interp}

-- the command is a phase of separate compiling, the analysis or the link
abbrev pub is_phase : Command → Bool
is_phase (Preprocess name) = true
is_phase (PhaseOne name optimise) = true
is_phase (Analyse colours) = true
is_phase (PhaseTwo name) = true
is_phase (Link stack) = true
is_phase _ = false

-- the command reads what was linked or analysed
abbrev pub is_reader : Command → Bool
is_reader (Run steps) = true
is_reader ListImage = true
is_reader Db = true
is_reader _ = false

-- the command builds whole programs
abbrev pub is_builder : Command → Bool
is_builder (Go opts) = true
is_builder (Build opts) = true
is_builder (Session opts) = true
is_builder (Bench number opts) = true
is_builder (Where k opts) = true
is_builder (Interp opts) = true
is_builder _ = false

-- the command puts no file
abbrev pub OnlyReads : Option Command → Type 0
OnlyReads (Some (Go opts)) = ⊥
OnlyReads (Some (Build opts)) = ⊥
OnlyReads (Some (Where k opts)) = ⊥
OnlyReads (Some (Session opts)) = ⊥
OnlyReads (Some (Preprocess name)) = ⊥
OnlyReads (Some (PhaseOne name optimise)) = ⊥
OnlyReads (Some (Analyse colours)) = ⊥
OnlyReads (Some (PhaseTwo name)) = ⊥
OnlyReads (Some (Link stack)) = ⊥
OnlyReads _ = Unit {0}

-- the names of the files that a command puts, where they are known from its words
abbrev pub files_put : Option Command → List (List ℕ)
files_put (Some (Preprocess name)) = cpp_puts name
files_put (Some (PhaseOne name optimise)) = phase_one_puts name
files_put (Some (Analyse colours)) = database_name ∷ []
files_put (Some (PhaseTwo name)) = phase_two_puts name
files_put (Some (Link stack)) = image_name ∷ []
files_put _ = []

-- the command is not `session`
abbrev pub IsNoSession : Option Command → Type 0
IsNoSession (Some (Session opts)) = ⊥
IsNoSession _ = Unit {0}

-- A store that told its files goes on telling them, and each file but those that the command puts is as it was; of `go`, of `where`,
-- of a build and of a session the store tells which were put, and a session put files of modules and of builds, and removed files
-- of modules, each by a line of its script, in order. Where the store failed, perhaps one file more was put in part.
abbrev pub KeepsTheRest : Option Command → Option (List ℕ) → Answer → Option Told → Option Told → Type 0
KeepsTheRest (Some (Go opts)) script answer old new = IfSome old (λ told. KeepsUnput answer told new)
KeepsTheRest (Some (Where k opts)) script answer old new = IfSome old (λ told. KeepsUnput answer told new)
KeepsTheRest (Some (Build opts)) script answer old new = IfSome old (λ told. KeepsUnput answer told new)
KeepsTheRest (Some (Session opts)) script answer old new =
    IfSome old (λ told. MakesSome (MayRemove script) answer told new × IsSomeAnd new (LeavesRest (MayRemove script) answer told))
KeepsTheRest command script answer old new = KeepsOthers (files_put command) answer old new

-- `build`, `go` and `where` built first, whatever the input tells: the refusal to which their build comes is their answer, in whose place
-- only want of memory and a fault of the store may come, and the files of a build were put.
abbrev pub BuildsFirst : Option Command → Answer → Told → Option Told → Type 0
BuildsFirst (Some (Go opts)) answer told new = HasBuilt opts.build answer told new
BuildsFirst (Some (Where k opts)) answer told new = HasBuilt opts.build answer told new
BuildsFirst (Some (Build opts)) answer told new = HasBuilt opts answer told new
BuildsFirst _ answer told new = Unit {0}

-- Where the kept objects are genuine, nothing is refused exactly where the modules, as a build sees them, can be built: they are accepted one by one and
-- together, and text and memory are large enough. So it is of every answer but a fault of the store and want of memory, which may
-- come in the place of either.
abbrev pub BuildsWhereItCan : Files → Opts → Answer → Type 0
BuildsWhereItCan files opts answer = KeepsGenuine files → IfMade answer ((shown : Files) → IsSeen files shown → IsNoRefusal answer ↔ CanBeBuilt (modules_of shown) opts)

-- `build`, `go` and `where` do so
abbrev pub IsComplete : Option Command → Files → Answer → Type 0
IsComplete (Some (Go opts)) files answer = BuildsWhereItCan files opts.build answer
IsComplete (Some (Where k opts)) files answer = BuildsWhereItCan files opts.build answer
IsComplete (Some (Build opts)) files answer = BuildsWhereItCan files opts answer
IsComplete _ files answer = Unit {0}

-- Where the kept objects were genuine, `build` and `go` come to the report and to the run of the full build's image, or to its
-- refusal, and leave its database and its image, and `interp` to the run with the frames of that image; and each build of a session,
-- whatever ended it, is the full build of the modules as they were then. `bench` builds in full whatever the store keeps.
abbrev pub BuildsWhole : Option Command → Answer → Told → Option Told → (input : List ℕ) → (input' taken taken' : Option (List ℕ)) → Type 0
BuildsWhole (Some (Build opts)) answer told new input input' taken taken' =
    KeepsGenuine told.files → IfMade answer (ComesInFull opts told new (λ full. ReportsFull full answer taken taken'))
BuildsWhole (Some (Go opts)) answer told new input input' taken taken' =
    KeepsGenuine told.files → IfMade answer (ComesInFull opts.build told new (λ full. RunsFull opts.budget input full answer input' taken taken'))
BuildsWhole (Some (Interp opts)) answer told new input input' taken taken' = KeepsGenuine told.files → IfMade answer (InterpretsFull told.files opts input answer input' taken taken')
BuildsWhole (Some (Session opts)) answer told new input input' taken taken' = KeepsGenuine told.files → SessionBuildsInFull opts told input
BuildsWhole (Some (Bench number opts)) answer told new input input' taken taken' = IfMade answer (BenchesFull number opts input answer taken taken')
BuildsWhole _ answer told new input input' taken taken' = Unit {0}

-- How a session ends is a function of its script, whatever the store tells.
abbrev pub EndsScript : Option Command → Option (List ℕ) → Answer → Type 0
EndsScript (Some (Session opts)) script answer = IfSome script (λ bytes. EndsAs bytes answer)
EndsScript _ script answer = Unit {0}
