-- Where lines were put out, or a walk was lost, the run was looked at at its call.
use Rattle.std.specs.Prelude.{ℕ, ◌≡◌, List, [], Some, Ok, Err, Result}
use Rattle.std.proofs.Common.{subst, sym, ap, refl, ◌∙◌}
use Rattle.pw_io.specs.Files.{Files}
use Rattle.pw_object.specs.declared.object.Object.{Object}
use Rattle.pw_image.specs.declared.image.Image.{Image}
use Rattle.pw_image.specs.Image.{Contents, IsImageFile}
use Rattle.pw_link.specs.Linking.{linked}
use Rattle.pw_machine.specs.declared.ends.End.TheVariants as end
use Rattle.pw_machine.specs.Run.{Progress, Running, Stopped}
use Rattle.pw_debug.specs.declared.info.FrameInfo.{FrameInfo}
use Rattle.pw_debug_frames.specs.Frames.{AreFrames}
use Rattle.pw_where.specs.Looks.{ShowsAt}
use Rattle.pw_store_modules.specs.Modules.{module_map, modules_of}
use Rattle.pw_build_opts.specs.declared.opts.RunOpts.{RunOpts}
use Rattle.pw_build_objects.specs.Programs.{Parts}
use Rattle.pw_build_objects.specs.Kept.{all_fresh}
use Rattle.pw_top_answer.specs.declared.answer.Answer.{Answer}
use Rattle.pw_top_answer.specs.declared.answer.Answer.TheVariants.{Done, NoFrames}
use Rattle.pw_top_answer.specs.Effects.{Effect, NamedFile}
use Rattle.pw_commands.specs.MachineRun.{run_answer}
use Rattle.pw_build_files.specs.FromBuild.Builds.{Builds, FullBuild}
use Rattle.pw_build_files.specs.FromBuild.BuildFault.{BuildFault}
use Rattle.pw_build_files.specs.FromBuild.BuildFault.TheVariants.{LinkRefused, NoMemory, Refused, StoreFault}
use Rattle.pw_build_files.specs.Building.{BuildOutcome, Outcome, kept_objects}
use Rattle.pw_build_files.specs.Full.{BuildsImage}
use Rattle.pw_build_files.specs.Outcomes.{fault_answer}
use Rattle.pw_commands_where.specs.Showing.{LookEffect, WhereOver, loses, passes, shows}
use Rattle.pw_cmean.specs.Worlds.{Program}
use Rattle.pw_run_agreement.specs.Agreement.{IsDefined}
use Rattle.pw_run_languages.specs.LinkingLaws.{frame_in}
use Rattle.pw_law_source.specs.Source.{source_runs}
use Rattle.pw_law_layers.specs.Whole.{image_of}
use Rattle.pw_law_truth.specs.Truth.{ShowsTruth}
use Rattle.pw_law_debugger.specs.Debugger.{LosesUndefined, TellsTruth}

-- the answers to a look at a call
abbrev IsOfLook : Answer → Type 0
IsOfLook Done = Unit {0}
IsOfLook (NoFrames address) = Unit {0}
IsOfLook answer = ⊥

pub no_fault : (fault : BuildFault) (answer : Answer) → IsOfLook answer → fault_answer fault ≡ answer → ⊥
no_fault (Refused name refusal) answer of e = subst IsOfLook (sym e) of
no_fault (LinkRefused fault) answer of e = subst IsOfLook (sym e) of
no_fault StoreFault answer of e = subst IsOfLook (sym e) of
no_fault NoMemory answer of e = subst IsOfLook (sym e) of

no_run : (p : Progress) (answer : Answer) → IsOfLook answer → run_answer p ≡ answer → ⊥
no_run (Running state) answer of e = subst IsOfLook (sym e) of
no_run (Stopped (end.Ended status) state) answer of e = subst IsOfLook (sym e) of
no_run (Stopped end.StackStop state) answer of e = subst IsOfLook (sym e) of
no_run (Stopped (end.Halted halt at) state) answer of e = subst IsOfLook (sym e) of

-- what a look that ends so has shown
abbrev Showed : Image → List Object → List FrameInfo → ℕ → ℕ → List ℕ → List ℕ → Answer → Type 0
Showed image objects frames k budget input output Done = (rest : List ℕ) × ShowsAt image objects frames k budget input (Ok output) (Some rest)
Showed image objects frames k budget input output (NoFrames address) = (rest : List ℕ) × ShowsAt image objects frames k budget input (Err address) (Some rest)
Showed image objects frames k budget input output answer = ⊥

has_shown : (image : Image) (objects : List Object) (frames : List FrameInfo) (k budget : ℕ) (input : List ℕ) (puts : List NamedFile) (effect : Effect) (answer : Answer) → IsOfLook answer
    → LookEffect image objects frames k budget input puts effect → effect.answer ≡ answer → Showed image objects frames k budget input effect.output answer
has_shown image objects frames k budget input puts effect answer of (shows lines rest at) e = subst (λ (a : Answer). Showed image objects frames k budget input lines a) e (rest, at)
has_shown image objects frames k budget input puts effect answer of (loses address rest at) e = subst (λ (a : Answer). Showed image objects frames k budget input [] a) e (rest, at)
has_shown image objects frames k budget input puts effect answer of (passes p run) e = absurd (no_run p answer of e)

-- the image at which was looked, and what was shown
record Looked (shown : Files) (opts : RunOpts) (k : ℕ) (input : List ℕ) (effect : Effect) (answer : Answer) : Type 0 where
  parts : Parts
  full : FullBuild (module_map shown) opts.build (Ok (all_fresh parts))
  bytes : List ℕ
  builds : BuildsImage (module_map shown) opts.build (Ok bytes)
  contents : Contents Image
  file : IsImageFile bytes contents
  value : contents.value ≡ image_of parts.objects opts.build.stack
  frames : List FrameInfo
  are : AreFrames parts.objects frames
  showed : Showed (image_of parts.objects opts.build.stack) parts.objects frames k opts.budget input effect.output answer

module _ (shown : Files) (opts : RunOpts) (k : ℕ) (input : List ℕ) (effect : Effect)
    (full : (parts : Parts) → Builds (modules_of shown) (kept_objects shown) opts.build (Ok parts) → FullBuild (module_map shown) opts.build (Ok (all_fresh parts)))
    (image : (outcome : Outcome) → BuildOutcome shown opts.build (Ok outcome) → BuildsImage (module_map shown) opts.build (Ok outcome.image))
    (one : (bytes : List ℕ) (c d : Contents Image) → IsImageFile bytes c → IsImageFile bytes d → c ≡ d) where
  looked : (answer : Answer) → IsOfLook answer → effect.answer ≡ answer → (comes : Result Outcome BuildFault) → BuildOutcome shown opts.build comes → WhereOver opts.budget k input comes effect
      → Looked shown opts k input effect answer
  looked answer of is (Err fault) build over = absurd (no_fault fault answer of (sym (ap (λ (e : Effect). e.answer) over) ∙ is))
  looked answer of is (Ok outcome) build over =
      let parts = build.0 in
      let made = build.2 in
      let contents : Contents Image = record { names = made.image_names; value = linked parts.objects opts.build.stack } in
      let same : over.0.value ≡ linked parts.objects opts.build.stack = ap (λ (c : Contents Image). c.value) (one outcome.image over.0 contents over.2 made.image_file) in
      let at = has_shown over.0.value outcome.linked_objects over.1 k opts.budget input outcome.puts effect answer of over.4 is in
      let own = subst (λ (os : List Object). Showed over.0.value os over.1 k opts.budget input effect.output answer) made.linked_objects at in
      record {
        parts = parts;
        full = full parts build.1;
        bytes = outcome.image;
        builds = image outcome build;
        contents = contents;
        file = made.image_file;
        value = refl;
        frames = over.1;
        are = subst (λ (os : List Object). AreFrames os over.1) made.linked_objects over.3;
        showed = subst (λ (v : Image). Showed v parts.objects over.1 k opts.budget input effect.output answer) same own;
      }

  module _ (p : Program)
      (law : (parts : Parts) (frames : List FrameInfo) → FullBuild (module_map shown) opts.build (Ok parts) → AreFrames parts.objects frames →
      IsDefined (source_runs p (frame_in (image_of parts.objects opts.build.stack)) opts.build.stack input) →
      ShowsTruth p (image_of parts.objects opts.build.stack) parts.objects frames k opts.budget input) where
    pub truth : effect.answer ≡ Done → (comes : Result Outcome BuildFault) → BuildOutcome shown opts.build comes → WhereOver opts.budget k input comes effect → TellsTruth shown opts k input effect.output p
    truth is comes build over =
        let l = looked Done tt is comes build over in
        record {
          parts = all_fresh l.parts;
          builds = l.full;
          comes = λ defined. (law (all_fresh l.parts) l.frames l.full l.are defined).comes effect.output (Some l.showed.0) l.showed.1;
          tells = λ defined f things pause. (law (all_fresh l.parts) l.frames l.full l.are defined).lines effect.output (Some l.showed.0) f things l.showed.1 pause;
        }

    pub undefined_where_lost : (address : ℕ) → effect.answer ≡ NoFrames address → (comes : Result Outcome BuildFault) → BuildOutcome shown opts.build comes → WhereOver opts.budget k input comes effect
        → LosesUndefined shown opts input p
    undefined_where_lost address is comes build over =
        let l = looked (NoFrames address) tt is comes build over in
        record {
          bytes = l.bytes;
          builds = l.builds;
          contents = l.contents;
          file = l.file;
          undefined = subst (λ (v : Image). IsDefined (source_runs p (frame_in v) opts.build.stack input) → ⊥) (sym l.value)
              (λ defined. (law (all_fresh l.parts) l.frames l.full l.are defined).walks address (Some l.showed.0) l.showed.1);
        }
