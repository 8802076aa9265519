-- Builds over the files of a store as a build sees them: what comes of each C source stands as its module's text.
use Rattle.std.specs.Prelude.{◌≡◌, ℕ, List, Option, Result, Err}
use Rattle.pw_io.specs.Files.{Files}
use Rattle.pw_store_modules.specs.Modules.{Source, modules_of}
use Rattle.pw_store_texts.specs.Seen.{IsSeen}
use Rattle.pw_top_answer.specs.declared.answer.Answer.{Answer}
use Rattle.pw_top_answer.specs.Outcomes.{IsLineDue}
use Rattle.pw_build_files.specs.FromBuild.BuildFault.{BuildFault}
use Rattle.pw_build_files.specs.FromBuild.BuildFault.TheVariants as build
use Rattle.pw_build_files.specs.FromBuild.Builds.{first_phases}
use Rattle.pw_build_files.specs.FromBuild.Phases.{refused_line}
use Rattle.pw_build_files.specs.Building.{BuildOutcome, Outcome}
use Rattle.pw_build_opts.specs.declared.opts.Opts.{Opts}

-- A build over the files of a store, as it sees them, comes to this.
abbrev pub SeenOutcome : Files → Opts → Result Outcome BuildFault → Type 0
SeenOutcome files opts comes = (shown : Files) × IsSeen files shown × BuildOutcome shown opts comes

-- these are the modules of a store, as a build sees them
abbrev pub SeesModules : Files → List Source → Type 0
SeesModules files sources = (shown : Files) × IsSeen files shown × (sources ≡ modules_of shown)

-- Their first phases come to this fault; a fault of the store, and want of memory, may come in the place of anything.
abbrev pub SeesFault : Files → BuildFault → Type 0
SeesFault files build.StoreFault = Unit {0}
SeesFault files build.NoMemory = Unit {0}
SeesFault files fault = (shown : Files) × IsSeen files shown × (first_phases (modules_of shown) ≡ Err fault)

-- the line on which one of them is refused
abbrev pub IsSeenLine : Files → Answer → Option ℕ → Type 0
IsSeenLine files answer line = (shown : Files) → IsSeen files shown → IsLineDue (refused_line (modules_of shown)) answer line
