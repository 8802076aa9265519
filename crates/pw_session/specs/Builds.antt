-- The builds of sessions and of `bench`.
use Rattle.std.specs.Prelude.{◌≡◌, ℕ, List, [], Result, Ok, Err}
use Rattle.pw_io.specs.Files.{Files}
use Rattle.pw_store_modules.specs.Modules.{modules_of}
use Rattle.pw_store_texts.specs.Seen.{IsSeen}
use Rattle.pw_commands_cpp.specs.Telling.{TellsAnswer}
use Rattle.pw_top_answer.specs.Answers.{line_text}
use Rattle.pw_top_answer.specs.declared.answer.Answer.{Answer}
use Rattle.pw_build_files.specs.FromBuild.BuildFault.{BuildFault}
use Rattle.pw_build_opts.specs.declared.opts.Opts.{Opts}
use Rattle.pw_build_files.specs.Building.{Outcome}
use Rattle.pw_build_files.specs.FromBuild.Phases.{refused_line}
use Rattle.pw_build_files.specs.Outcomes.{fault_answer}
use Rattle.pw_build_files.specs.Seen.{SeenOutcome}

-- the build over the files of a store comes to this
unfoldable pub BuildsTo : Files → Opts → Result Outcome BuildFault → Type 0
BuildsTo files opts comes = SeenOutcome files opts comes

-- The line that tells the refusal of a build; of one that is done there is none.
abbrev pub TellsText : Files → Result Outcome BuildFault → List ℕ → Type 0
TellsText files (Ok outcome) text = text ≡ []
TellsText files (Err fault) text =
    (told : Answer) × TellsAnswer files (fault_answer fault) told × (shown : Files) × IsSeen files shown × (text ≡ line_text (refused_line (modules_of shown)) told)
