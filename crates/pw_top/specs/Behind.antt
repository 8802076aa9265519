-- What a run behind a build does.
use Rattle.std.specs.Prelude.{◌≡◌, ℕ, ◌≤◌, List, length, Option, Some}
use Rattle.std.specs.FinMap as finite
use Rattle.pw_value.specs.Limits.{kept_limit}
use Rattle.pw_io.specs.Files.{Files, Told}
use Rattle.pw_store_modules.specs.FileNames.{image_name}
use Rattle.pw_top_answer.specs.declared.answer.Answer.{Answer}
use Rattle.pw_top_answer.specs.declared.answer.Answer.TheVariants.{Done}
use Rattle.pw_law_session.specs.FromSession.FromBuildFiles.Genuine.{KeepsGenuine}
use Rattle.pw_law_session.specs.FromSession.FromBuildFiles.Outcomes.{AreOpts}
use Rattle.pw_build_opts.specs.declared.opts.RunOpts.{RunOpts}
use Rattle.pw_top_words.specs.declared.commands.Command.TheVariants.{Go, Build, Run}
use Rattle.pw_top.specs.Commands.{BuildsFirst, BuildsWhole}
use Rattle.pw_top.specs.Does.{DoesAs}

-- the image that stands in these files is short enough to be read whole
abbrev pub HoldsShortImage : Files → Type 0
HoldsShortImage files = (image : List ℕ) → finite.get files image_name ≡ Some image → length image ≤ kept_limit

-- What `go` does, and what that has to do with the full build of the modules, and with what they mean in C.
abbrev pub DoesAsGo : RunOpts → Answer → Told → Option Told → (input : List ℕ) → (input' taken taken' : Option (List ℕ)) → Type 0
DoesAsGo opts answer told new input input' taken taken' =
    DoesAs (Some (Go opts)) answer told new input input' taken taken' × BuildsWhole (Some (Go opts)) answer told new input input' taken taken'

-- A `build` was done over genuine kept objects; and a `run`, over the files that it left, answered, put out and read so.
pub record RunsBehindBuild (opts : RunOpts) (answer : Answer) (told : Told) (new : Option Told) (input : List ℕ) (input' taken taken' : Option (List ℕ)) : Type 0 where
  pub are : AreOpts opts.build
  pub genuine : KeepsGenuine told.files
  pub left : Told
  pub built : BuildsFirst (Some (Build opts.build)) Done told (Some left)
  pub short : HoldsShortImage left.files
  pub ran : DoesAs (Some (Run opts.budget)) answer left new input input' taken taken'
