-- Each build of a history over genuine objects is a full build.
use Rattle.std.proofs.Common.{◌≡◌, ◌≢◌, ℕ, List, [], ◌∷◌, Result, Ok, Err, true}
use Rattle.std.specs.FinMap as finite
use Rattle.pw_io.specs.Files.{Files, Told, after_put, after_remove}
use Rattle.pw_store_texts.specs.Names.{is_text_file}
use Rattle.pw_top_answer.specs.Effects.{after_puts}
use Rattle.pw_session.specs.FromBuild.BuildFault.{BuildFault}
use Rattle.pw_session.specs.FromBuildFiles.Building.{Outcome, puts_of}
use Rattle.pw_session.specs.FromBuildFiles.Seen.{SeenOutcome}
use Rattle.pw_session.specs.FromBuildFiles.Genuine.{KeepsGenuine}
use Rattle.pw_session.specs.FromBuildFiles.Outcomes.{AreOpts}
use Rattle.pw_build_opts.specs.declared.opts.Opts.{Opts}
use Rattle.pw_law_session.specs.History.{Action, WritesText, RemovesText, BuildsAll, AreFullBuilds, Happen, MayHappen, behind}
use Rattle.pw_law_session.specs.Whole.{IsBuiltInFull}

-- the laws on which it stands
pub record Laws : Type 0 where
  pub full : (told : Told) (opts : Opts) (comes : Result Outcome BuildFault) → AreOpts opts → KeepsGenuine told.files → SeenOutcome told.files opts comes → IsBuiltInFull told opts comes
  pub leaves : (told : Told) (opts : Opts) (outcome : Outcome) → KeepsGenuine told.files → SeenOutcome told.files opts (Ok outcome) → KeepsGenuine (after_puts told outcome.puts).files
  pub texts : (file : List ℕ) (old new : Files) → is_text_file file ≡ true → ((other : List ℕ) → other ≢ file → finite.get new other ≡ finite.get old other) → KeepsGenuine old → KeepsGenuine new
  pub insertion : (files : Files) (name bytes other : List ℕ) → other ≢ name → finite.get (finite.insert files name bytes) other ≡ finite.get files other
  pub removal : (files : Files) (name other : List ℕ) → other ≢ name → finite.get (finite.remove files name) other ≡ finite.get files other

build_keeps : Laws → (told : Told) (opts : Opts) (comes : Result Outcome BuildFault) → KeepsGenuine told.files → SeenOutcome told.files opts comes → KeepsGenuine (after_puts told (puts_of comes)).files
build_keeps laws told opts (Ok outcome) keeps h = laws.leaves told opts outcome keeps h
build_keeps laws told opts (Err fault) keeps h = keeps

action_keeps : Laws → (told : Told) (action : Action) → KeepsGenuine told.files → MayHappen told action → KeepsGenuine (behind told action).files
action_keeps laws told (WritesText file text) keeps h = laws.texts file told.files (after_put told file text).files h (laws.insertion told.files file text) keeps
action_keeps laws told (RemovesText file) keeps h = laws.texts file told.files (after_remove told file).files h (laws.removal told.files file) keeps
action_keeps laws told (BuildsAll opts comes) keeps h = build_keeps laws told opts comes keeps h.1

pub history_full : Laws → (told : Told) (actions : List Action) → KeepsGenuine told.files → Happen told actions → AreFullBuilds told actions
history_full laws told [] keeps h = tt
history_full laws told (WritesText file text ∷ actions) keeps h =
    history_full laws (behind told (WritesText file text)) actions (action_keeps laws told (WritesText file text) keeps h.0) h.1
history_full laws told (RemovesText file ∷ actions) keeps h = history_full laws (behind told (RemovesText file)) actions (action_keeps laws told (RemovesText file) keeps h.0) h.1
history_full laws told (BuildsAll opts comes ∷ actions) keeps h = (
  laws.full told opts comes h.0.0 keeps h.0.1,
  history_full laws (behind told (BuildsAll opts comes)) actions (action_keeps laws told (BuildsAll opts comes) keeps h.0) h.1,
)
