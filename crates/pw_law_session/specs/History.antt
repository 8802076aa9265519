-- What happens to a store over time: texts are written and removed, and programs are built.
use Rattle.std.specs.Prelude.{◌≡◌, ℕ, List, [], ◌∷◌, Result, true}
use Rattle.pw_io.specs.Files.{Told, after_put, after_remove}
use Rattle.pw_store_texts.specs.Names.{is_text_file}
use Rattle.pw_top_answer.specs.Effects.{after_puts}
use Rattle.pw_session.specs.FromBuild.BuildFault.{BuildFault}
use Rattle.pw_session.specs.FromBuildFiles.Building.{Outcome, puts_of}
use Rattle.pw_session.specs.FromBuildFiles.Seen.{SeenOutcome}
use Rattle.pw_session.specs.FromBuildFiles.Outcomes.{AreOpts}
use Rattle.pw_build_opts.specs.declared.opts.Opts.{Opts}
use Rattle.pw_law_session.specs.Whole.{IsBuiltInFull}

-- A file is written or removed, or the modules are built, which comes to an outcome or to a fault.
pub data Action : Type 0 where
  WritesText : List ℕ → List ℕ → Action
  RemovesText : List ℕ → Action
  BuildsAll : Opts → Result Outcome BuildFault → Action

-- what the store tells behind it
abbrev pub behind : Told → Action → Told
behind told (WritesText file text) = after_put told file text
behind told (RemovesText file) = after_remove told file
behind told (BuildsAll opts comes) = after_puts told (puts_of comes)

-- The file is a text's, and the build comes to that.
abbrev pub MayHappen : Told → Action → Type 0
MayHappen told (WritesText file text) = is_text_file file ≡ true
MayHappen told (RemovesText file) = is_text_file file ≡ true
MayHappen told (BuildsAll opts comes) = AreOpts opts × SeenOutcome told.files opts comes

-- they happen one behind another
abbrev pub Happen : Told → List Action → Type 0
Happen told [] = Unit {0}
Happen told (action ∷ actions) = MayHappen told action × Happen (behind told action) actions

-- Each build among them is the full build of the modules as they are then: its image, byte for byte, or its refusal, and what it
-- leaves.
abbrev pub AreFullBuilds : Told → List Action → Type 0
AreFullBuilds told [] = Unit {0}
AreFullBuilds told (BuildsAll opts comes ∷ actions) = IsBuiltInFull told opts comes × AreFullBuilds (behind told (BuildsAll opts comes)) actions
AreFullBuilds told (action ∷ actions) = AreFullBuilds (behind told action) actions
