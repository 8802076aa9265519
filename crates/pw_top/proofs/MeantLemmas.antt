-- A call that ran a program did what the program does in C.
use Rattle.std.proofs.Common.{◌≡◌, ℕ, ◌-◌, List, [], ◌++◌, length, Option, Some, Result, Ok, Err, refl, sym, ap, ◌∙◌, subst, append_assoc, append-nil}
use Rattle.pw_io.specs.Files.{Told}
use Rattle.pw_io.specs.Streams.{Appends}
use Rattle.pw_image.specs.declared.image.Image.{Image}
use Rattle.pw_image.specs.Image.{Contents, IsImageFile}
use Rattle.pw_machine.specs.declared.ends.End.TheVariants as end
use Rattle.pw_machine.specs.declared.ends.Halt.{Halt}
use Rattle.pw_machine.specs.Run.{Progress, Running, Stopped}
use Rattle.pw_store_modules.specs.Modules.{Texts, module_map}
use Rattle.pw_run_agreement.specs.Agreement.{SourceEnd, SourceRun, Ends, Stack}
use Rattle.pw_run_languages.specs.Programs.{AreBytes}
use Rattle.pw_law_stops.specs.Stops.{Tells}
use Rattle.pw_top_answer.specs.declared.answer.Answer.{Answer}
use Rattle.pw_top_answer.specs.declared.answer.Answer.TheVariants.{Ended, StackStop, Spent, Halted, ReadFault, WriteFault, StoreFault, NoMemory}
use Rattle.pw_top_answer.specs.Effects.{Effect}
use Rattle.pw_top_answer.specs.Outcomes.{Answers, LeavesInput, PutsOut, RefusesAs}
use Rattle.pw_commands.specs.MachineRun.{ran, run_answer, run_output, run_rest}
use Rattle.pw_commands.specs.Outcome.{IsFound}
use Rattle.pw_commands.specs.Running.{run_effect}
use Rattle.pw_law_session.specs.FromMeaning.Meaning.{Means, runs_of}
use Rattle.pw_law_session.specs.FromSession.FromBuild.BuildFault.{BuildFault}
use Rattle.pw_law_session.specs.FromSession.FromBuild.BuildFault.TheVariants as build
use Rattle.pw_law_session.specs.FromSession.FromBuildFiles.Full.{BuildsImage}
use Rattle.pw_law_session.specs.FromSession.FromBuildFiles.Building.{Outcome}
use Rattle.pw_law_session.specs.FromSession.FromBuildFiles.Seen.{SeenOutcome}
use Rattle.pw_law_session.specs.FromSession.FromBuildFiles.Genuine.{KeepsGenuine}
use Rattle.pw_law_session.specs.FromSession.FromBuildFiles.Outcomes.{AreOpts, fault_answer}
use Rattle.pw_build_opts.specs.declared.opts.RunOpts.{RunOpts}
use Rattle.pw_go.specs.Going.{GoEffect, GoOver, HasBuilt, run_from}
use Rattle.pw_top.specs.Behind.{RunsBehindBuild}
use Rattle.pw_top.specs.Does.{Does}
use Rattle.pw_top.specs.Meant.{AnswersProgram, AnswersSeen, AnswersRun, EndsAsRun, PutsFront, WasRun}
use Rattle.pw_top.proofs.WholeLemmas.{BuildsAreFull, FullAt, full_at}
use Rattle.pw_top.proofs.BehindLemmas.{Built, Fronts, built_of, run_stands, stands}

-- ---- what the machine's run tells

-- as much of the source's run as the machine's tells
record IsTold (run : SourceRun) (how : SourceEnd) (input : List ℕ) (progress : Progress) : Type 0 where
  pub end : run.end ≡ how
  pub output : run.output ≡ run_output progress
  pub read : run.read ≡ length input - length (run_rest progress)

spent_is_no_end : (status : ℕ) → Spent ≡ Ended status → ⊥
spent_is_no_end status e = cc

stop_is_no_end : (status : ℕ) → StackStop ≡ Ended status → ⊥
stop_is_no_end status e = cc

same_status : (a b : ℕ) → Ended a ≡ Ended b → a ≡ b
same_status a b e = cc

told_end : (run : SourceRun) (input : List ℕ) (status : ℕ) (progress : Progress) → Tells input progress run → run_answer progress ≡ Ended status → IsTold run (Ends status) input progress
told_end run input status (Running last) tells e = absurd (spent_is_no_end status e)
told_end run input status (Stopped (end.Ended other) last) tells e = record { end = tells.end ∙ ap (λ n. Ends n) (same_status other status e); output = tells.output; read = tells.read }
told_end run input status (Stopped end.StackStop last) tells e = absurd (stop_is_no_end status e)
told_end run input status (Stopped (end.Halted halt at) last) tells e = absurd tells

spent_is_no_stop : Spent ≡ StackStop → ⊥
spent_is_no_stop e = cc

end_is_no_stop : (status : ℕ) → Ended status ≡ StackStop → ⊥
end_is_no_stop status e = cc

told_stop : (run : SourceRun) (input : List ℕ) (progress : Progress) → Tells input progress run → run_answer progress ≡ StackStop → IsTold run Stack input progress
told_stop run input (Running last) tells e = absurd (spent_is_no_stop e)
told_stop run input (Stopped (end.Ended status) last) tells e = absurd (end_is_no_stop status e)
told_stop run input (Stopped end.StackStop last) tells e = record { end = tells.end; output = tells.output; read = tells.read }
told_stop run input (Stopped (end.Halted halt at) last) tells e = absurd tells

spent_is_no_halt : (halt : Halt) (at : ℕ) → Spent ≡ Halted halt at → ⊥
spent_is_no_halt halt at e = cc

end_is_no_halt : (halt : Halt) (at status : ℕ) → Ended status ≡ Halted halt at → ⊥
end_is_no_halt halt at status e = cc

stop_is_no_halt : (halt : Halt) (at : ℕ) → StackStop ≡ Halted halt at → ⊥
stop_is_no_halt halt at e = cc

no_halt : (run : SourceRun) (input : List ℕ) (halt : Halt) (at : ℕ) (progress : Progress) → Tells input progress run → run_answer progress ≡ Halted halt at → ⊥
no_halt run input halt at (Running last) tells e = spent_is_no_halt halt at e
no_halt run input halt at (Stopped (end.Ended status) last) tells e = end_is_no_halt halt at status e
no_halt run input halt at (Stopped end.StackStop last) tells e = stop_is_no_halt halt at e
no_halt run input halt at (Stopped (end.Halted other place) last) tells e = tells

told_front : (run : SourceRun) (input : List ℕ) (progress : Progress) → Tells input progress run → (more : List ℕ) × (run.output ≡ run_output progress ++ more)
told_front run input (Running last) tells = (tells.more, tells.output)
told_front run input (Stopped (end.Ended status) last) tells = ([], tells.output ∙ sym (append-nil last.output))
told_front run input (Stopped end.StackStop last) tells = ([], tells.output ∙ sym (append-nil last.output))
told_front run input (Stopped (end.Halted halt at) last) tells = absurd tells

-- ---- what was answered and put out

all_put : (wanted output more : List ℕ) → wanted ≡ output ++ more → more ≡ [] → wanted ≡ output
all_put wanted output more front none = front ∙ (ap (λ m. output ++ m) none ∙ append-nil output)

ends_as : (run : SourceRun) (how : SourceEnd) (input : List ℕ) (progress : Progress) (answer : Answer) (input' taken taken' : Option (List ℕ)) → IsTold run how input progress → (puts : PutsOut (run_output progress) answer taken taken') → puts.more ≡ []
    → input' ≡ Some (run_rest progress) → EndsAsRun run how input input' taken taken'
ends_as run how input progress answer input' taken taken' told puts none left = record {
  end = told.end;
  output = subst (λ l. Appends taken taken' l) (sym (told.output ∙ all_put (run_output progress) puts.output puts.more puts.front none)) puts.taken;
  left = run_rest progress;
  rest = left;
  read = told.read;
}

puts_front : (run : SourceRun) (input : List ℕ) (progress : Progress) (answer : Answer) (taken taken' : Option (List ℕ)) → Tells input progress run → PutsOut (run_output progress) answer taken taken' → PutsFront run taken taken'
puts_front run input progress answer taken taken' tells puts =
    let told = told_front run input progress tells in
    record { front = puts.output; more = puts.more ++ told.0; whole = told.1 ∙ (ap (λ l. l ++ told.0) puts.front ∙ append_assoc puts.output puts.more told.0); put = puts.taken }

answers_run : (run : SourceRun) (input : List ℕ) (progress : Progress) (answer : Answer) (input' taken taken' : Option (List ℕ)) → WasRun answer → Tells input progress run
    → Answers (run_answer progress) answer → PutsOut (run_output progress) answer taken taken' → LeavesInput (run_rest progress) input answer input' → AnswersRun run answer input input' taken taken'
answers_run run input progress (Ended status) input' taken taken' was tells e puts left = ends_as run (Ends status) input progress (Ended status) input' taken taken' (told_end run input status progress tells e) puts puts.whole left
answers_run run input progress StackStop input' taken taken' was tells e puts left = ends_as run Stack input progress StackStop input' taken taken' (told_stop run input progress tells e) puts puts.whole left
answers_run run input progress (Halted halt at) input' taken taken' was tells e puts left = no_halt run input halt at progress tells e
answers_run run input progress answer input' taken taken' was tells e puts left = puts_front run input progress answer taken taken' tells puts

-- ---- the program of an image

-- the law
abbrev OneImage : Type 0
OneImage = (bytes : List ℕ) (c d : Contents Image) → IsImageFile bytes c → IsImageFile bytes d → c ≡ d

of_image : OneImage → (texts : Texts) (opts : RunOpts) (image : List ℕ) (c : Contents Image) (answer : Answer) (input : List ℕ) (input' taken taken' : Option (List ℕ)) → BuildsImage texts opts.build (Ok image) → Means texts opts.build image → IsImageFile image c → AreBytes input → WasRun answer
    → Answers (run_answer (run_from opts.budget input c)) answer → PutsOut (run_output (run_from opts.budget input c)) answer taken taken' → LeavesInput (run_rest (run_from opts.budget input c)) input answer input'
    → AnswersProgram texts opts answer input input' taken taken'
of_image one texts opts image c answer input input' taken taken' builds means file bytes was e puts left = record {
  program = means.program;
  of_texts = means.of_texts;
  bytes = image;
  builds = builds;
  contents = means.contents;
  file = means.file;
  fit = means.fit;
  does = λ bound large meaningful.
      let run = runs_of means.program means.contents.value opts.build.stack input bound in
      answers_run run input (run_from opts.budget input c) answer input' taken taken' was
      (subst (λ (k : Contents Image). Tells input (run_from opts.budget input k) run) (one image means.contents c means.file file) (means.tells input bytes opts.budget bound large meaningful))
      e puts left;
}

-- ---- `go`

found_some : (comes : Effect → Type 0) (answer : Answer) → WasRun answer → IsFound comes answer → (e : Effect) × comes e
found_some comes StoreFault was h = absurd was
found_some comes NoMemory was h = absurd was
found_some comes _ was h = (h.0, h.1)

refused : (fault : BuildFault) (answer : Answer) → WasRun answer → fault_answer fault ≡ answer → ⊥
refused (build.Refused name refusal) answer was e = subst WasRun (sym e) was
refused (build.LinkRefused fault) answer was e = subst WasRun (sym e) was
refused build.StoreFault answer was e = subst WasRun (sym e) was
refused build.NoMemory answer was e = subst WasRun (sym e) was

no_refusal : (fault : BuildFault) (answer : Answer) → WasRun answer → RefusesAs (fault_answer fault) answer → ⊥
no_refusal fault ReadFault was h = h
no_refusal fault WriteFault was h = h
no_refusal fault StoreFault was h = was
no_refusal fault NoMemory was h = was
no_refusal fault answer was h = refused fault answer was h

over_program : OneImage → (opts : RunOpts) → FullAt opts.build → (comes : Result Outcome BuildFault) (e : Effect) (answer : Answer) (told : Told) (new : Option Told) (input : List ℕ) (input' taken taken' : Option (List ℕ)) → KeepsGenuine told.files → AreBytes input → WasRun answer
    → HasBuilt opts.build answer told new → SeenOutcome told.files opts.build comes → GoOver opts.budget input comes e → Answers e.answer answer → PutsOut e.output answer taken taken' → LeavesInput e.rest input answer input'
    → AnswersSeen told.files opts answer input input' taken taken'
over_program one opts full (Ok outcome) e answer told new input input' taken taken' keeps bytes was h b over a puts left =
    let f = full told (Ok outcome) keeps b in (
      f.0,
      f.1,
      of_image one (module_map f.0) opts outcome.image over.0 answer input input' taken taken' f.2.0 f.2.1 over.1 bytes was
          (subst (λ (x : Effect). Answers x.answer answer) over.2 a) (subst (λ (x : Effect). PutsOut x.output answer taken taken') over.2 puts) (subst (λ (x : Effect). LeavesInput x.rest input answer input') over.2 left),
    )
over_program one opts full (Err fault) e answer told new input input' taken taken' keeps bytes was h b over a puts left = absurd (no_refusal fault answer was (h.answers (Err fault) b))

pub go_program : BuildsAreFull → OneImage → (opts : RunOpts) (answer : Answer) (told : Told) (new : Option Told) (input : List ℕ) (input' taken taken' : Option (List ℕ)) → AreOpts opts.build → KeepsGenuine told.files → AreBytes input → WasRun answer
    → HasBuilt opts.build answer told new → Does (GoEffect told.files opts input) answer told new input input' taken taken' → AnswersSeen told.files opts answer input input' taken taken'
go_program law one opts answer told new input input' taken taken' are keeps bytes was h d =
    let found = found_some (GoEffect told.files opts input) answer was d.found in
    let c = found.1 in
    over_program one opts (full_at law opts.build are) c.0 found.0 answer told new input input' taken taken' keeps bytes was h c.1 c.2 (d.answers found.0 c) (d.output found.0 c) (d.rest found.0 c)

-- ---- a run behind a build

ran_program : Fronts → OneImage → (opts : RunOpts) (answer : Answer) (told : Told) (new : Option Told) (input : List ℕ) (input' taken taken' : Option (List ℕ)) (h : RunsBehindBuild opts answer told new input input' taken taken') → Built opts.build told h.left → AreBytes input → WasRun answer
    → AnswersSeen told.files opts answer input input' taken taken'
ran_program fronts one opts answer told new input input' taken taken' h built bytes was =
    let outcome = built.some.0 in
    let b = built.some.1 in
    let full = built.law told (Ok outcome) built.keeps b in
    let means : Means (module_map full.0) opts.build outcome.image = full.2.1 in
    let is : run_effect h.left.files opts.budget input ≡ ran (run_from opts.budget input means.contents) = run_stands fronts h.left.files outcome.image means.contents opts.budget input h.short (stands opts.build told h.left built outcome b) means.file in
    let run = run_effect h.left.files opts.budget input in (
      full.0,
      full.1,
      of_image one (module_map full.0) opts outcome.image means.contents answer input input' taken taken' full.2.0 means means.file bytes was
          (subst (λ (x : Effect). Answers x.answer answer) is (h.ran.answers run refl)) (subst (λ (x : Effect). PutsOut x.output answer taken taken') is (h.ran.output run refl)) (subst (λ (x : Effect). LeavesInput x.rest input answer input') is (h.ran.rest run refl)),
    )

pub behind_program : BuildsAreFull → Fronts → OneImage → (opts : RunOpts) (answer : Answer) (told : Told) (new : Option Told) (input : List ℕ) (input' taken taken' : Option (List ℕ)) → RunsBehindBuild opts answer told new input input' taken taken' → AreBytes input → WasRun answer
    → AnswersSeen told.files opts answer input input' taken taken'
behind_program law fronts one opts answer told new input input' taken taken' h bytes was =
    ran_program fronts one opts answer told new input input' taken taken' h (built_of opts.build (full_at law opts.build h.are) told h.left h.genuine h.built) bytes was
