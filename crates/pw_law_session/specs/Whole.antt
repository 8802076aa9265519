-- One build over the files of a store, where the objects that are kept there are genuine: it is the full build of the modules, as a build sees them.
use Rattle.std.specs.Prelude.{◌≡◌, ℕ, List, Option, Some, Result, Ok, Err, IsSomeAnd}
use Rattle.pw_io.specs.Files.{Files, Told}
use Rattle.pw_store_texts.specs.Seen.{IsSeen}
use Rattle.pw_store_modules.specs.FileNames.{image_name}
use Rattle.pw_store_modules.specs.Modules.{Texts, module_map}
use Rattle.pw_top_answer.specs.Effects.{after_puts}
use Rattle.pw_law_build.specs.Whole.{HoldsFile, HoldsFullBuild}
use Rattle.pw_session.specs.FromBuild.BuildFault.{BuildFault}
use Rattle.pw_session.specs.FromBuildFiles.Building.{Outcome, puts_of}
use Rattle.pw_session.specs.FromBuildFiles.Full.{image_of}
use Rattle.pw_law_meaning.specs.Meaning.{BuildsAndMeans}
use Rattle.pw_build_opts.specs.declared.opts.Opts.{Opts}

-- Behind a full build that comes to an image, its database and this image stand in their files; behind one that is refused, the
-- store tells what it told.
abbrev pub LeavesFull : Texts → Opts → Result (List ℕ) BuildFault → Told → Option Told → Type 0
LeavesFull texts opts (Ok image) told new = IsSomeAnd new (λ now. HoldsFullBuild texts opts now.files × HoldsFile now.files image_name image)
LeavesFull texts opts (Err fault) told new = new ≡ Some told

-- What a build comes to is the image of the full build of the modules as a build sees them, byte for byte, which means what they mean,
-- or its refusal; and its puts leave that.
abbrev pub IsBuiltInFull : Told → Opts → Result Outcome BuildFault → Type 0
IsBuiltInFull told opts comes =
    (shown : Files) × IsSeen told.files shown × BuildsAndMeans (module_map shown) opts (image_of comes) × LeavesFull (module_map shown) opts (image_of comes) told (Some (after_puts told (puts_of comes)))
