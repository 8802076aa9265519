-- Sessions, and `bench`, whose builds are full builds.
use Rattle.std.specs.Prelude.{◌≡◌, ℕ, List, [], ◌∷◌, ◌++◌, Result, Ok, Err}
use Rattle.pw_io.specs.Files.{Files, Told}
use Rattle.pw_store_texts.specs.Seen.{IsSeen}
use Rattle.pw_store_modules.specs.Modules.{module_map}
use Rattle.pw_top_answer.specs.Effects.{Effect}
use Rattle.pw_law_build.specs.Whole.{HoldsFullBuild}
use Rattle.pw_session.specs.FromBuild.BuildFault.{BuildFault}
use Rattle.pw_session.specs.FromBuildFiles.Building.{Outcome}
use Rattle.pw_session.specs.FromBuildFiles.Full.{image_of}
use Rattle.pw_law_meaning.specs.Meaning.{BuildsAndMeans}
use Rattle.pw_session.specs.FromBuildFiles.Genuine.{KeepsGenuine}
use Rattle.pw_session_script.specs.Script.{LineValue, BuildProgram}
use Rattle.pw_build_opts.specs.declared.opts.RunOpts.{RunOpts}
use Rattle.pw_session.specs.Builds.{BuildsTo, TellsText}
use Rattle.pw_session.specs.Bench.{BenchOver, bench_files}
use Rattle.pw_session.specs.Session.{LineEffect, Acts, Effects, LinesAct, SessionState, behind_effect, builds_as, script_lines, next_state, session_start}

-- Behind a build that is done the database and the image of the full build of the texts stand in their files, and the objects
-- that are kept are genuine.
abbrev pub LeavesFullBuild : RunOpts → SessionState → Files → LineEffect → Result Outcome BuildFault → Type 0
LeavesFullBuild opts s shown effect (Ok outcome) = HoldsFullBuild (module_map shown) opts.build (next_state s effect).told.files × KeepsGenuine (next_state s effect).told.files
LeavesFullBuild opts s shown effect (Err fault) = Unit {0}

-- A build comes to the image of the full build of the texts as it sees them then, which means what they mean, or to its fault, and
-- leaves that build's files.
abbrev pub BuildsInFull : RunOpts → SessionState → LineValue → LineEffect → Type 0
BuildsInFull opts s BuildProgram effect =
    (comes : Result Outcome BuildFault) × BuildsTo s.told.files opts.build comes × (line : List ℕ) × TellsText s.told.files comes line × (effect ≡ builds_as s line comes)
    × (shown : Files) × IsSeen s.told.files shown × BuildsAndMeans (module_map shown) opts.build (image_of comes) × LeavesFullBuild opts s shown effect comes
BuildsInFull opts s line effect = Acts opts s line effect

-- what lines do, one behind another, where each build is a full build
abbrev pub LinesBuildInFull : RunOpts → SessionState → List LineValue → Effects → Type 0
LinesBuildInFull opts s [] e = e ≡ record { output = []; changes = [] }
LinesBuildInFull opts s (line ∷ lines) e =
    (effect : LineEffect) × (more : Effects) × BuildsInFull opts s line effect × LinesBuildInFull opts (next_state s effect) lines more × (e ≡ behind_effect effect more)

-- What the lines of a script do, or a prefix of them that was obeyed, they do with full builds.
abbrev pub SessionBuildsInFull : RunOpts → Told → List ℕ → Type 0
SessionBuildsInFull opts told script =
    (front more : List LineValue) (e : Effects) → (script_lines script).lines ≡ front ++ more → LinesAct opts (session_start told) front e → LinesBuildInFull opts (session_start told) front e

-- `bench` with a number comes to this over the image of the full build of the texts that are made from the number, which means
-- what they mean, or over that build's fault.
abbrev pub BenchBuildsInFull : ℕ → RunOpts → List ℕ → Effect → Type 0
BenchBuildsInFull number opts input effect =
    (comes : Result Outcome BuildFault) × (shown : Files) × IsSeen (bench_files number) shown × BuildsAndMeans (module_map shown) opts.build (image_of comes) × BenchOver number opts.budget input comes effect
