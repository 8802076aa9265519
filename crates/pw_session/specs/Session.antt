-- A session: the lines of a script, obeyed one behind another over the files of a store.
use Rattle.std.specs.Prelude.{◌≡◌, ℕ, zero, suc, ◌+◌, ◌-◌, List, [], ◌∷◌, ◌++◌, codes, length, map, Option, Some, None, Result, Ok, Err}
use Rattle.std.specs.Option.{option_map_or}
use Rattle.pw_io.specs.Files.{Told}
use Rattle.pw_top_answer.specs.declared.answer.Answer.{Answer}
use Rattle.pw_top_answer.specs.declared.answer.Answer.TheVariants.{Done, BadScript}
use Rattle.pw_build_files.specs.FromBuild.BuildFault.{BuildFault}
use Rattle.pw_build_files.specs.Building.{Outcome}
use Rattle.pw_build_files.specs.Driving.{outcome_lines}
use Rattle.pw_session_script.specs.Script.{LineValue, PutText, RemoveText, BuildProgram, RunProgram, first_line}
use Rattle.pw_build_opts.specs.declared.opts.RunOpts.{RunOpts}
use Rattle.pw_session.specs.Builds.{BuildsTo, TellsText}
use Rattle.pw_session.specs.Changes.{Change, Puts, Removes, after_changes}
use Rattle.pw_session.specs.Runs.{RunPrints}

-- ---- the lines of a script

-- a script may have so many lines
abbrev pub lines_limit : ℕ
lines_limit = 10000

-- the lines of a script up to its end, or up to the offset at which no lawful line stands
pub record ScriptLines : Type 0 where
  pub lines : List LineValue
  pub bad : Option ℕ

-- a script ends before a line; anything else that stands there is bad
abbrev pub bad_at : ℕ → List ℕ → Option ℕ
bad_at offset [] = None
bad_at offset (byte ∷ bytes) = Some offset

abbrev pub no_line : ℕ → List ℕ → ScriptLines
no_line offset script = record { lines = []; bad = bad_at offset script }

abbrev pub with_line : LineValue → ScriptLines → ScriptLines
with_line line more = record { lines = line ∷ more.lines; bad = more.bad }

-- at most so many lines of a script, of which this stands at an offset
unfoldable pub script_lines_from : ℕ → ℕ → List ℕ → ScriptLines
script_lines_from zero offset script = no_line offset script
script_lines_from (suc n) offset script =
    option_map_or (λ cut. with_line cut.0 (script_lines_from n (offset + (length script - length cut.1)) cut.1)) (first_line script) (no_line offset script)

unfoldable pub script_lines : List ℕ → ScriptLines
script_lines script = script_lines_from lines_limit 0 script

-- how a session ends
abbrev pub script_answer : Option ℕ → Answer
script_answer None = Done
script_answer (Some offset) = BadScript offset

-- ---- one line

-- what a session goes through its lines with: what the store tells, and the image that was built last
pub record SessionState : Type 0 where
  pub told : Told
  pub image : Option (List ℕ)

-- what a line does: what it puts out, which files it changes, and the image that is run from then on
pub record LineEffect : Type 0 where
  pub output : List ℕ
  pub changes : List Change
  pub image : Option (List ℕ)

-- a change of a file, which is told
abbrev pub changes_as : SessionState → Change → LineEffect
changes_as s change = record { output = codes "ok\n"; changes = change ∷ []; image = s.image }

abbrev pub puts_out : SessionState → List ℕ → LineEffect
puts_out s output = record { output = output; changes = []; image = s.image }

-- A build puts its files, tells its report, and leaves its image; of one that is refused a line tells that alone.
abbrev pub builds_as : SessionState → List ℕ → Result Outcome BuildFault → LineEffect
builds_as s line (Ok outcome) = record {
  output = outcome_lines outcome;
  changes = map Puts outcome.puts;
  image = Some outcome.image;
}
builds_as s line (Err fault) = puts_out s line

-- what a line does
abbrev pub Acts : RunOpts → SessionState → LineValue → LineEffect → Type 0
Acts opts s (PutText file text) effect = effect ≡ changes_as s (Puts (file, text))
Acts opts s (RemoveText file) effect = effect ≡ changes_as s (Removes file)
Acts opts s BuildProgram effect = (comes : Result Outcome BuildFault) × BuildsTo s.told.files opts.build comes × (line : List ℕ) × TellsText s.told.files comes line × (effect ≡ builds_as s line comes)
Acts opts s (RunProgram input) effect = (output : List ℕ) × RunPrints s.image opts.budget input output × (effect ≡ puts_out s output)

-- ---- all lines

abbrev pub next_state : SessionState → LineEffect → SessionState
next_state s effect = record { told = after_changes s.told effect.changes; image = effect.image }

-- what lines put out together, and which files they change, in order
pub record Effects : Type 0 where
  pub output : List ℕ
  pub changes : List Change

abbrev pub behind_effect : LineEffect → Effects → Effects
behind_effect effect more = record { output = effect.output ++ more.output; changes = effect.changes ++ more.changes }

-- what lines do, one behind another
abbrev pub LinesAct : RunOpts → SessionState → List LineValue → Effects → Type 0
LinesAct opts s [] e = e ≡ record { output = []; changes = [] }
LinesAct opts s (line ∷ lines) e = (effect : LineEffect) × (more : Effects) × Acts opts s line effect × LinesAct opts (next_state s effect) lines more × (e ≡ behind_effect effect more)

-- a session begins with what the store tells, and with no image
abbrev pub session_start : Told → SessionState
session_start told = record { told = told; image = None }

-- what the lines of a script do over a store that tells this
abbrev pub SessionActs : RunOpts → Told → List ℕ → Effects → Type 0
SessionActs opts told script e = LinesAct opts (session_start told) (script_lines script).lines e
