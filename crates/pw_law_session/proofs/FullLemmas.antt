-- The builds of a session over genuine objects are full builds.
use Rattle.std.proofs.Common.{◌≡◌, ◌≢◌, ℕ, List, [], ◌∷◌, ◌++◌, map, Result, Ok, Err, refl, sym, subst, true}
use Rattle.std.specs.List.{AllByRecursion}
use Rattle.std.specs.FinMap as finite
use Rattle.pw_io.specs.Files.{Files, Told, after_put, after_remove}
use Rattle.pw_store_modules.specs.Modules.{module_map}
use Rattle.pw_store_texts.specs.Names.{is_text_file}
use Rattle.pw_store_texts.specs.Seen.{IsSeen}
use Rattle.pw_top_answer.specs.Effects.{NamedFile, after_puts}
use Rattle.pw_law_build.specs.Whole.{HoldsFullBuild}
use Rattle.pw_session.specs.FromBuild.BuildFault.{BuildFault}
use Rattle.pw_session.specs.FromBuildFiles.Building.{BuildOutcome, Outcome}
use Rattle.pw_session.specs.FromBuildFiles.Seen.{SeenOutcome}
use Rattle.pw_session.specs.FromBuildFiles.Full.{image_of}
use Rattle.pw_law_meaning.specs.Meaning.{BuildsAndMeans}
use Rattle.pw_session.specs.FromBuildFiles.Genuine.{KeepsGenuine}
use Rattle.pw_session.specs.FromBuildFiles.Outcomes.{AreOpts}
use Rattle.pw_session_script.specs.Script.{LineValue, PutText, RemoveText, BuildProgram, RunProgram, NamesText}
use Rattle.pw_build_opts.specs.declared.opts.RunOpts.{RunOpts}
use Rattle.pw_session.specs.Builds.{BuildsTo}
use Rattle.pw_session.specs.Changes.{Puts, after_changes}
use Rattle.pw_session.specs.Session.{LineEffect, Acts, Effects, LinesAct, SessionState, builds_as, next_state, session_start}
use Rattle.pw_law_session.specs.Full.{BuildsInFull, LeavesFullBuild, LinesBuildInFull, SessionBuildsInFull}
use Rattle.pw_law_session.proofs.NamingLemmas.{script_named}
use Rattle.pw_build_opts.specs.declared.opts.Opts.{Opts}

-- the laws on which it stands
pub record Laws : Type 0 where
  pub whole : (told : Told) (opts : Opts) (outcome : Outcome) (shown : Files) → IsSeen told.files shown → KeepsGenuine told.files → BuildOutcome shown opts (Ok outcome) → HoldsFullBuild (module_map shown) opts (after_puts told outcome.puts).files
  pub leaves : (told : Told) (opts : Opts) (outcome : Outcome) (shown : Files) → IsSeen told.files shown → KeepsGenuine told.files → BuildOutcome shown opts (Ok outcome) → KeepsGenuine (after_puts told outcome.puts).files
  pub full : (files : Files) (opts : Opts) (comes : Result Outcome BuildFault) (shown : Files) → AreOpts opts → IsSeen files shown → KeepsGenuine files → BuildOutcome shown opts comes → BuildsAndMeans (module_map shown) opts (image_of comes)
  pub texts : (file : List ℕ) (old new : Files) → is_text_file file ≡ true → ((other : List ℕ) → other ≢ file → finite.get new other ≡ finite.get old other) → KeepsGenuine old → KeepsGenuine new
  pub insertion : (files : Files) (name bytes other : List ℕ) → other ≢ name → finite.get (finite.insert files name bytes) other ≡ finite.get files other
  pub removal : (files : Files) (name other : List ℕ) → other ≢ name → finite.get (finite.remove files name) other ≡ finite.get files other

-- ---- what a line leaves

puts_are : (told : Told) (files : List NamedFile) → after_changes told (map Puts files) ≡ after_puts told files
puts_are told [] = refl
puts_are told (file ∷ files) = puts_are (after_put told file.0 file.1) files

build_left : Laws → (opts : RunOpts) (s : SessionState) (line : List ℕ) (comes : Result Outcome BuildFault) (shown : Files) → IsSeen s.told.files shown → KeepsGenuine s.told.files → BuildOutcome shown opts.build comes → KeepsGenuine (next_state s (builds_as s line comes)).told.files
build_left laws opts s line (Ok outcome) shown is keeps h = subst (λ (t : Told). KeepsGenuine t.files) (sym (puts_are s.told outcome.puts)) (laws.leaves s.told opts.build outcome shown is keeps h)
build_left laws opts s line (Err fault) shown is keeps h = keeps

pub opened : (opts : RunOpts) (files : Files) (comes : Result Outcome BuildFault) → BuildsTo files opts.build comes → SeenOutcome files opts.build comes
unfolding BuildsTo
opened opts files comes h = h

left_by : (s : SessionState) (effect one : LineEffect) → effect ≡ one → KeepsGenuine (next_state s one).told.files → KeepsGenuine (next_state s effect).told.files
left_by s effect one e h = subst (λ (a : LineEffect). KeepsGenuine (next_state s a).told.files) (sym e) h

line_left : Laws → (opts : RunOpts) (s : SessionState) (line : LineValue) (effect : LineEffect) → KeepsGenuine s.told.files → NamesText line → Acts opts s line effect → KeepsGenuine (next_state s effect).told.files
line_left laws opts s (PutText file text) effect keeps named h = left_by s effect _ h (laws.texts file s.told.files (after_put s.told file text).files named (laws.insertion s.told.files file text) keeps)
line_left laws opts s (RemoveText file) effect keeps named h = left_by s effect _ h (laws.texts file s.told.files (after_remove s.told file).files named (laws.removal s.told.files file) keeps)
line_left laws opts s BuildProgram effect keeps named h =
    let seen = opened opts s.told.files h.0 h.1 in
    left_by s effect _ h.4 (build_left laws opts s h.2 h.0 seen.0 seen.1 keeps seen.2)
line_left laws opts s (RunProgram input) effect keeps named h = left_by s effect _ h.2 keeps

-- a build leaves the full build's files
full_left : Laws → (opts : RunOpts) (s : SessionState) (line : List ℕ) (outcome : Outcome) (shown : Files) → IsSeen s.told.files shown → KeepsGenuine s.told.files → BuildOutcome shown opts.build (Ok outcome)
    → HoldsFullBuild (module_map shown) opts.build (next_state s (builds_as s line (Ok outcome))).told.files
full_left laws opts s line outcome shown is keeps h =
    subst (λ (t : Told). HoldsFullBuild (module_map shown) opts.build t.files) (sym (puts_are s.told outcome.puts)) (laws.whole s.told opts.build outcome shown is keeps h)

build_leaves : Laws → (opts : RunOpts) (s : SessionState) (effect : LineEffect) (line : List ℕ) (comes : Result Outcome BuildFault) (shown : Files) → effect ≡ builds_as s line comes → IsSeen s.told.files shown → KeepsGenuine s.told.files → BuildOutcome shown opts.build comes
    → LeavesFullBuild opts s shown effect comes
build_leaves laws opts s effect line (Ok outcome) shown e is keeps h = (
  subst (λ (a : LineEffect). HoldsFullBuild (module_map shown) opts.build (next_state s a).told.files) (sym e) (full_left laws opts s line outcome shown is keeps h),
  left_by s effect (builds_as s line (Ok outcome)) e (build_left laws opts s line (Ok outcome) shown is keeps h),
)
build_leaves laws opts s effect line (Err fault) shown e is keeps h = tt

-- ---- lines

line_in_full : Laws → (opts : RunOpts) → AreOpts opts.build → (s : SessionState) (line : LineValue) (effect : LineEffect) → KeepsGenuine s.told.files → Acts opts s line effect → BuildsInFull opts s line effect
line_in_full laws opts are s (PutText file text) effect keeps h = h
line_in_full laws opts are s (RemoveText file) effect keeps h = h
line_in_full laws opts are s BuildProgram effect keeps h =
    let seen = opened opts s.told.files h.0 h.1 in
    (h.0, h.1, h.2, h.3, h.4, seen.0, seen.1, laws.full s.told.files opts.build h.0 seen.0 are seen.1 keeps seen.2, build_leaves laws opts s effect h.2 h.0 seen.0 h.4 seen.1 keeps seen.2)
line_in_full laws opts are s (RunProgram input) effect keeps h = h

lines_in_full : Laws → (opts : RunOpts) → AreOpts opts.build → (s : SessionState) (lines : List LineValue) (e : Effects) → AllByRecursion NamesText lines → KeepsGenuine s.told.files → LinesAct opts s lines e → LinesBuildInFull opts s lines e
lines_in_full laws opts are s [] e named keeps h = h
lines_in_full laws opts are s (line ∷ lines) e named keeps h =
    (h.0, h.1, line_in_full laws opts are s line h.0 keeps h.2, lines_in_full laws opts are (next_state s h.0) lines h.1 named.1 (line_left laws opts s line h.0 keeps named.0 h.2) h.3, h.4)

front_named : (front more : List LineValue) → AllByRecursion NamesText (front ++ more) → AllByRecursion NamesText front
front_named [] more named = tt
front_named (line ∷ front) more named = (named.0, front_named front more named.1)

pub session_in_full : Laws → (opts : RunOpts) (told : Told) (script : List ℕ) → AreOpts opts.build → KeepsGenuine told.files → SessionBuildsInFull opts told script
session_in_full laws opts told script are keeps = λ front more e split h.
    lines_in_full laws opts are (session_start told) front e (front_named front more (subst (λ (lines : List LineValue). AllByRecursion NamesText lines) split (script_named script))) keeps h
