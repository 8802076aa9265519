-- What it says that the debugger tells the truth of a program, and that it loses no walk over its frames.
use Rattle.std.specs.Prelude.{ℕ, List, Ok}
use Rattle.pw_value.specs.Objects.{Object as Thing}
use Rattle.pw_io.specs.Files.{Files}
use Rattle.pw_image.specs.declared.image.Image.{Image}
use Rattle.pw_image.specs.Image.{Contents, IsImageFile}
use Rattle.pw_store_modules.specs.Modules.{module_map}
use Rattle.pw_build_opts.specs.declared.opts.RunOpts.{RunOpts}
use Rattle.pw_build_objects.specs.Programs.{Parts}
use Rattle.pw_build_files.specs.FromBuild.Builds.{FullBuild}
use Rattle.pw_build_files.specs.Full.{BuildsImage}
use Rattle.pw_cmean.specs.Worlds.{Program}
use Rattle.pw_run_agreement.specs.Agreement.{IsDefined}
use Rattle.pw_run_languages.specs.LinkingLaws.{frame_in}
use Rattle.pw_law_source.specs.Source.{source_runs}
use Rattle.pw_law_layers.specs.Whole.{image_of}
use Rattle.pw_law_truth.specs.Truth.{ComesToCall, IsPause, TellTrue}

-- If the program is defined on the input, with the frames of the image and its stack, it comes to its k-th call over the input, and
-- the lines are true of it, and one of each global that is shown.
pub record TellsTruth (shown : Files) (opts : RunOpts) (k : ℕ) (input lines : List ℕ) (p : Program) : Type 0 where
  -- the parts of the full build of the modules that a build sees: the image is linked of their objects
  pub parts : Parts
  pub builds : FullBuild (module_map shown) opts.build (Ok parts)
  pub comes : IsDefined (source_runs p (frame_in (image_of parts.objects opts.build.stack)) opts.build.stack input) → ComesToCall p input k
  pub tells : IsDefined (source_runs p (frame_in (image_of parts.objects opts.build.stack)) opts.build.stack input) → (f : List ℕ) (things : List Thing) →
      IsPause p input k f things → TellTrue p (image_of parts.objects opts.build.stack) parts.objects k lines f things

-- A walk is lost only where the program is not defined on the input.
pub record LosesUndefined (shown : Files) (opts : RunOpts) (input : List ℕ) (p : Program) : Type 0 where
  -- the image of the full build of the modules that a build sees
  pub bytes : List ℕ
  pub builds : BuildsImage (module_map shown) opts.build (Ok bytes)
  pub contents : Contents Image
  pub file : IsImageFile bytes contents
  pub undefined : ¬ IsDefined (source_runs p (frame_in contents.value) opts.build.stack input)
