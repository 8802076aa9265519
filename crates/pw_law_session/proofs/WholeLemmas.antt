-- A build over genuine objects is the full build.
use Rattle.std.proofs.Common.{◌≡◌, ℕ, List, Result, Ok, Err, refl, subst}
use Rattle.pw_io.specs.Files.{Files, Told}
use Rattle.pw_store_modules.specs.FileNames.{image_name}
use Rattle.pw_store_modules.specs.Modules.{Texts, module_map}
use Rattle.pw_top_answer.specs.Effects.{after_puts}
use Rattle.pw_law_build.specs.Whole.{HoldsFile, HoldsFullBuild}
use Rattle.pw_session.specs.FromBuild.BuildFault.{BuildFault}
use Rattle.pw_session.specs.FromBuildFiles.Building.{BuildOutcome, Outcome}
use Rattle.pw_session.specs.FromBuildFiles.Full.{BuildsImage, image_of}
use Rattle.pw_session.specs.FromBuildFiles.Genuine.{KeepsGenuine}
use Rattle.pw_build_opts.specs.declared.opts.Opts.{Opts}
use Rattle.pw_law_meaning.specs.Meaning.{BuildsAndMeans}
use Rattle.pw_store_texts.specs.Seen.{IsSeen}
use Rattle.pw_session.specs.FromBuildFiles.Seen.{SeenOutcome}
use Rattle.pw_law_session.specs.Whole.{IsBuiltInFull}
use Rattle.pw_law_session.proofs.SeenLemmas.{Beside, keeps_seen}

-- the laws on which it stands, for these options
pub record Laws (opts : Opts) : Type 0 where
  pub beside : Beside
  pub whole : (told : Told) (outcome : Outcome) (shown : Files) → IsSeen told.files shown → KeepsGenuine told.files → BuildOutcome shown opts (Ok outcome) → HoldsFullBuild (module_map shown) opts (after_puts told outcome.puts).files
  pub full : (files : Files) (comes : Result Outcome BuildFault) → KeepsGenuine files → BuildOutcome files opts comes → BuildsAndMeans (module_map files) opts (image_of comes)
  pub one : (texts : Texts) (a b : Result (List ℕ) BuildFault) → BuildsImage texts opts a → BuildsImage texts opts b → a ≡ b

image_is : (a b : List ℕ) → ◌≡◌ {A = Result (List ℕ) BuildFault} (Ok a) (Ok b) → a ≡ b
image_is a b e = cc

-- the image that stands there is the one to which the build comes
image_stands : (opts : Opts) → Laws opts → (texts : Texts) (files : Files) (image : List ℕ) → HoldsFullBuild texts opts files → BuildsImage texts opts (Ok image) → HoldsFile files image_name image
image_stands opts laws texts files image h full =
    let same : h.2.image ≡ image = image_is h.2.image image (laws.one texts (Ok h.2.image) (Ok image) (h.0, h.1, h.2.image_file) full) in
    subst (λ (i : List ℕ). HoldsFile files image_name i) same h.2.image_stands

pub in_full : (opts : Opts) → Laws opts → (told : Told) (comes : Result Outcome BuildFault) → KeepsGenuine told.files → SeenOutcome told.files opts comes → IsBuiltInFull told opts comes
in_full opts laws told (Ok outcome) keeps (shown, is, h) =
    let full = laws.full shown (Ok outcome) (keeps_seen laws.beside told.files shown is keeps) h in
    let held = laws.whole told outcome shown is keeps h in
    (shown, is, full, (held, image_stands opts laws (module_map shown) (after_puts told outcome.puts).files outcome.image held full.0))
in_full opts laws told (Err fault) keeps (shown, is, h) = (shown, is, laws.full shown (Err fault) (keeps_seen laws.beside told.files shown is keeps) h, refl)
