-- The full build of texts, as the bytes of its image.
use Rattle.std.specs.Prelude.{ℕ, List, Result, Ok, Err}
use Rattle.pw_build_objects.specs.Programs.{Parts}
use Rattle.pw_store_modules.specs.Modules.{Texts}
use Rattle.pw_commands.specs.Linking.{IsImageOf}
use Rattle.pw_build_files.specs.FromBuild.BuildFault.{BuildFault}
use Rattle.pw_build_files.specs.FromBuild.Builds.{FullBuild}
use Rattle.pw_build_files.specs.Building.{Outcome}
use Rattle.pw_build_opts.specs.declared.opts.Opts.{Opts}

-- The full build of texts, where nothing was kept, comes to an image of these bytes, or to this fault.
abbrev pub BuildsImage : Texts → Opts → Result (List ℕ) BuildFault → Type 0
BuildsImage texts opts (Ok image) = (parts : Parts) × FullBuild texts opts (Ok parts) × IsImageOf parts.objects opts.stack image
BuildsImage texts opts (Err fault) = FullBuild texts opts (Err fault)

-- the image that a build comes to, or its fault
abbrev pub image_of : Result Outcome BuildFault → Result (List ℕ) BuildFault
image_of (Ok outcome) = Ok outcome.image
image_of (Err fault) = Err fault
