-- What `interp` comes to over a full build.
use Rattle.std.specs.Prelude.{ℕ, ◌≡◌, ◌≢◌, ◌<◌, All, List, Result, Ok, Err}
use Rattle.std.proofs.Common.{refl, sym, ap, ◌∙◌}
use Rattle.std.proofs.lemmas.List.Elements.{All-from_recursion}
use Rattle.pw_io.specs.Files.{Files}
use Rattle.pw_link.specs.Linking.{linked}
use Rattle.pw_store_modules.specs.Modules.{Texts, module_map, modules_of}
use Rattle.pw_build_opts.specs.declared.opts.Opts.{Opts}
use Rattle.pw_build_opts.specs.declared.opts.RunOpts.{RunOpts}
use Rattle.pw_build_objects.specs.Programs.{Parts}
use Rattle.pw_build_files.specs.FromBuild.BuildFault.{BuildFault}
use Rattle.pw_build_files.specs.FromBuild.Builds.{FullBuild}
use Rattle.pw_build_files.specs.Outcomes.{AreOpts}
use Rattle.pw_top_answer.specs.declared.answer.Answer.TheVariants as answer
use Rattle.pw_top_answer.specs.Effects.{Effect}
use Rattle.pw_cmean.specs.Worlds.{Program}
use Rattle.pw_cmean.specs.Acts as acts
use Rattle.pw_cmean.specs.Acts.{Ending, Wrong}
use Rattle.pw_cmean.specs.SourceRun.{source_run}
use Rattle.pw_cmean.specs.Typed.{IsWellTyped}
use Rattle.pw_interp_calls.specs.Frames.{frame_among}
use Rattle.pw_run_languages.specs.Programs.{AreBytes}
use Rattle.pw_run_languages.specs.LinkingLaws.{frame_in}
use Rattle.pw_law_source.specs.Lowering.{AreChecked, IsAccepted}
use Rattle.pw_law_never.specs.Resolved.{IsResolvedProgram}
use Rattle.pw_law_whole.specs.FromLayers.Whole.{image_of}
use Rattle.pw_law_whole.specs.Programs.{HavePlainNames, IsProgramOf, IsWholeWith}
use Rattle.pw_commands_interp.specs.Interpreting.{InterpOver, InterpsInFull, end_answer, frames_of}
use Rattle.pw_law_interp.proofs.Typed.{TypedExactly, are_modules}
use Rattle.pw_law_interp.proofs.Refused.{refusals_want_no_memory, wants}
use Rattle.pw_law_interp.proofs.Told.{told_so}

-- the laws on which it stands
pub record Laws : Type 0 where
  pub typed : TypedExactly
  pub whole : (texts : Texts) (opts : Opts) (parts : Parts) (p : Program) → FullBuild texts opts (Ok parts) → IsProgramOf texts p → HavePlainNames texts
      → AreOpts opts → IsWholeWith p parts opts
  pub plain : (files : Files) → HavePlainNames (module_map files)
  pub resolved : (p : Program) (frame_of : List ℕ → ℕ) (stack : ℕ) → AreChecked p → IsAccepted p frame_of stack → IsResolvedProgram p
  pub never : (p : Program) (frame_of : List ℕ → ℕ) (stack : ℕ) (input : List ℕ) (n : ℕ) → IsWellTyped p → IsResolvedProgram p → All (λ b. b < 256) input
      → (source_run p frame_of stack input n).end ≢ Wrong

end_by : (end : Ending) → end ≢ Wrong → end_answer end ≢ answer.NoMemory
end_by (acts.Exit status) so = λ e. wants (answer.Ended status) e
end_by acts.StackFull so = λ e. wants answer.StackStop e
end_by acts.Bound so = λ e. wants answer.Spent e
end_by (acts.Undefined operation home token) so = λ e. wants (answer.Undefined operation home token) e
end_by acts.Wrong so = λ e. so refl

answered : (effect other : Effect) → effect ≡ other → other.answer ≢ answer.NoMemory → effect.answer ≢ answer.NoMemory
answered effect other same so = λ e. so (sym (ap (λ (x : Effect). x.answer) same) ∙ e)

module _ (laws : Laws) (files : Files) (opts : RunOpts) (input : List ℕ) (are : AreOpts opts.build) (bytes : AreBytes input) where
  -- the program of a full build ends as the meaning of C has it, with any frames
  ends : (parts : Parts) (p : Program) (frame_of : List ℕ → ℕ) → FullBuild (module_map files) opts.build (Ok parts) → IsProgramOf (module_map files) p
      → (source_run p frame_of opts.build.stack input opts.budget).end ≢ Wrong
  ends parts p frame_of full is =
      let whole = laws.whole (module_map files) opts.build parts p full is (laws.plain files) are in
      let accepted = whole.whole.accepted in
      laws.never p frame_of opts.build.stack input opts.budget accepted.typed
      (laws.resolved p (frame_in (image_of parts.objects opts.build.stack)) opts.build.stack whole.checked accepted)
      (All-from_recursion (λ byte. byte < 256) input bytes)

  pub meant : (comes : Result Parts BuildFault) (effect : Effect) → FullBuild (module_map files) opts.build comes → InterpOver files opts input comes effect → effect.answer ≢ answer.NoMemory
  meant (Ok parts) effect full over =
      let p : Program = record { modules = over.0 } in
      let frame_of = frame_among (frames_of (linked parts.objects opts.build.stack)) in
      let run = source_run p frame_of opts.build.stack input opts.budget in
      answered effect _ over.2 (end_by run.end (ends parts p frame_of full (are_modules laws.typed (modules_of files) over.0 over.1)))
  meant (Err fault) effect full over = answered effect _ over (refusals_want_no_memory (module_map files) opts.build fault full)

-- over the files as a build sees them, told of the C source where the module has one
pub told_meant : Laws → (files : Files) (opts : RunOpts) (input : List ℕ) → AreOpts opts.build → AreBytes input → (effect : Effect) → InterpsInFull files opts input effect → effect.answer ≢ answer.NoMemory
told_meant laws files opts input are bytes effect comes =
    let plain = comes.0 in
    let seen = comes.1 in
    answered effect _ comes.2 (told_so files plain.answer (meant laws seen.0 opts input are bytes seen.2 plain seen.3 seen.4))
