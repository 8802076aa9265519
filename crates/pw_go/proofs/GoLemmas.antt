-- What `go` did, by what its build did and by the run of the image.
use Rattle.std.proofs.Common.{◌≡◌, ℕ, List, [], Option, Some, None, Result, Ok, Err, refl, sym, ap, subst, append-nil}
use Rattle.std.specs.Prelude.{IfSome}
use Rattle.pw_io.specs.Files.{Files, Told}
use Rattle.pw_image.specs.declared.image.Image.{Image}
use Rattle.pw_image.specs.Image.{Contents, IsImageFile}
use Rattle.pw_machine.specs.Start.{image_start}
use Rattle.pw_top_answer.specs.declared.answer.Answer.{Answer}
use Rattle.pw_top_answer.specs.declared.answer.Answer.TheVariants as answer
use Rattle.pw_top_answer.specs.Effects.{Effect, PutsFiles, NamedFile, after_puts, answers_alone}
use Rattle.pw_top_answer.specs.Outcomes.{Answers, InputCount, IsLineDue, IsNoRefusal, LeavesInput, LeavesStreams, PutsOut, StoreCount, WasReadInPart}
use Rattle.pw_store_modules.specs.Modules.{modules_of}
use Rattle.pw_commands.specs.MachineRun.{IsRunAnswer, start_state}
use Rattle.pw_commands.specs.Outcome.{IsFound, Obeys}
use Rattle.pw_commands.proofs.RunLemmas.{Ends, ends_itself, run_ends}
use Rattle.pw_build_files.specs.FromBuild.BuildFault.{BuildFault}
use Rattle.pw_build_files.specs.FromBuild.BuildFault.TheVariants as build
use Rattle.pw_build_files.specs.FromBuild.Phases.{refused_line}
use Rattle.pw_build_files.specs.FromBuild.Unbuilt.{Unbuilt}
use Rattle.pw_build_opts.specs.declared.opts.Opts.{Opts}
use Rattle.pw_build_opts.specs.declared.opts.RunOpts.{RunOpts}
use Rattle.pw_build_files.specs.declared.report.Report.{Report}
use Rattle.pw_build_files.specs.Building.{Outcome, puts_of}
use Rattle.pw_build_files.specs.Seen.{IsSeenLine, SeenOutcome}
use Rattle.pw_build_files.specs.Outcomes.{AnswersFault, AnswersOutcome, FaultFound, HoldsImage, IsNoWant, ObeysBuild, fault_answer}
use Rattle.pw_build_files.proofs.DrivingLemmas.{refused_outcome}
use Rattle.pw_go.specs.Going.{GoEffect, GoOver, HasBuilt, IfMade, IsGoAnswer, RunsImage, ran_behind, run_from}
use Rattle.pw_go.proofs.RunLemmas.{appends_none, none_out}

-- ---- what the command comes to

-- what it leaves of the input is a rest of it
over_ends : (budget : ℕ) (input : List ℕ) (comes : Result Outcome BuildFault) (e : Effect) → GoOver budget input comes e → Ends input e.rest
over_ends budget input (Ok outcome) e h = subst (λ (x : Effect). Ends input x.rest) (sym h.2) (run_ends (start_state (image_start h.0.value.memory) input) budget)
over_ends budget input (Err fault) e h = subst (λ (x : Effect). Ends input x.rest) (sym h) (ends_itself input)

pub go_ends : (files : Files) (opts : RunOpts) (input : List ℕ) (e : Effect) → GoEffect files opts input e → Ends input e.rest
go_ends files opts input e d = over_ends opts.budget input d.0 e d.2

puts_are : (budget : ℕ) (input : List ℕ) (comes : Result Outcome BuildFault) (e : Effect) → GoOver budget input comes e → puts_of comes ≡ e.puts
puts_are budget input (Ok outcome) e h = sym (ap (λ (x : Effect). x.puts) h.2)
puts_are budget input (Err fault) e h = sym (ap (λ (x : Effect). x.puts) h)

-- ---- a build that was done, and the run of its image

-- what the command comes to is the run of an image in the file that was built, behind the puts of what was put
the_run : (opts : RunOpts) (report : Report) (told : Told) (new : Option Told) (input : List ℕ) (e : Effect) → ObeysBuild opts.build (Ok report) told new → GoEffect told.files opts input e
    → (outcome : Outcome) × (c : Contents Image) × IsImageFile report.image.items c × (new ≡ Some (after_puts told outcome.puts)) × (e ≡ ran_behind outcome.puts (run_from opts.budget input c))
the_run opts report told new input e b d =
    let r = b.answers d.0 d.1 in
    let over : GoOver opts.budget input (Ok r.0) e = subst (λ (x : Result Outcome BuildFault). GoOver opts.budget input x e) r.1 d.2 in
    let put : new ≡ Some (after_puts told (puts_of (Ok r.0))) = subst (λ (x : Result Outcome BuildFault). new ≡ Some (after_puts told (puts_of x))) r.1 (b.puts d.0 d.1) in
    (r.0, over.0, subst (λ (i : List ℕ). IsImageFile i over.0) (sym r.2.image) over.1, put, over.2)

all_put : (files : List NamedFile) (a : Answer) (told : Told) (new : Option Told) → IsRunAnswer a → new ≡ Some (after_puts told files) → PutsFiles files a told new
all_put files answer.StoreFault told new k e = absurd k
all_put files answer.NoMemory told new k e = record { done = files; more = []; split = sym (append-nil files); left = e }
all_put files _ told new k e = e

found_run : (comes : Effect → Type 0) (one : Effect) (a : Answer) → comes one → Answers one.answer a → IsFound comes a
found_run comes one answer.ReadFault c h = (one, c)
found_run comes one answer.WriteFault c h = (one, c)
found_run comes one answer.StoreFault c h = tt
found_run comes one answer.NoMemory c h = tt
found_run comes one _ c h = (one, c, h)

run_found : (opts : RunOpts) (report : Report) (a : Answer) (told : Told) (new : Option Told) (input : List ℕ) (input' taken taken' : Option (List ℕ)) → HoldsImage report.image.items → ObeysBuild opts.build (Ok report) told new
    → RunsImage report.image.items opts.budget input a input' taken taken' → IsFound (GoEffect told.files opts input) a
run_found opts report a told new input input' taken taken' held b run =
    let outcome = b.found.0 in
    let h : IsImageFile outcome.image held.0 = subst (λ (i : List ℕ). IsImageFile i held.0) b.found.2.image held.1 in
    found_run (GoEffect told.files opts input) (ran_behind outcome.puts (run_from opts.budget input held.0)) a (Ok outcome, b.found.1, (held.0, h, refl)) (run.answers held.0 held.1)

did_run : (opts : RunOpts) (report : Report) (a : Answer) (told : Told) (new : Option Told) (input : List ℕ) (input' taken taken' : Option (List ℕ)) → IsRunAnswer a → HoldsImage report.image.items → ObeysBuild opts.build (Ok report) told new
    → RunsImage report.image.items opts.budget input a input' taken taken' → Obeys (GoEffect told.files opts input) a told new
did_run opts report a told new input input' taken taken' k held b run = record {
  answers = λ e d. let r = the_run opts report told new input e b d in subst (λ (x : Effect). Answers x.answer a) (sym r.4) (run.answers r.1 r.2);
  puts = λ e d. let r = the_run opts report told new input e b d in subst (λ (x : Effect). PutsFiles x.puts a told new) (sym r.4) (all_put r.0.puts a told new k r.3);
  found = run_found opts report a told new input input' taken taken' held b run;
}

pub run_obeys : (told new : Option Told) (old input' taken taken' : Option (List ℕ)) (opts : RunOpts) (report : Report) (a : Answer) → IsRunAnswer a → HoldsImage report.image.items → IfSome told (λ t. ObeysBuild opts.build (Ok report) t new)
    → IfSome old (λ input. RunsImage report.image.items opts.budget input a input' taken taken') → IfSome told (λ t. IfSome old (λ input. Obeys (GoEffect t.files opts input) a t new))
run_obeys None new old input' taken taken' opts report a k held b run = tt
run_obeys (Some t) new None input' taken taken' opts report a k held b run = tt
run_obeys (Some t) new (Some input) input' taken taken' opts report a k held b run = did_run opts report a t new input input' taken taken' k held b run

pub run_output_is : (told new : Option Told) (old input' taken taken' : Option (List ℕ)) (opts : RunOpts) (report : Report) (a : Answer) → IfSome told (λ t. ObeysBuild opts.build (Ok report) t new)
    → IfSome old (λ input. RunsImage report.image.items opts.budget input a input' taken taken') → IfSome told (λ t. IfSome old (λ input. (e : Effect) → GoEffect t.files opts input e → PutsOut e.output a taken taken'))
run_output_is None new old input' taken taken' opts report a b run = tt
run_output_is (Some t) new None input' taken taken' opts report a b run = tt
run_output_is (Some t) new (Some input) input' taken taken' opts report a b run =
    λ e d. let r = the_run opts report t new input e b d in subst (λ (x : Effect). PutsOut x.output a taken taken') (sym r.4) (run.output r.1 r.2)

pub run_rest_is : (told new : Option Told) (old input' taken taken' : Option (List ℕ)) (opts : RunOpts) (report : Report) (a : Answer) → IfSome told (λ t. ObeysBuild opts.build (Ok report) t new)
    → IfSome old (λ input. RunsImage report.image.items opts.budget input a input' taken taken') → IfSome told (λ t. IfSome old (λ input. (e : Effect) → GoEffect t.files opts input e → LeavesInput e.rest input a input'))
run_rest_is None new old input' taken taken' opts report a b run = tt
run_rest_is (Some t) new None input' taken taken' opts report a b run = tt
run_rest_is (Some t) new (Some input) input' taken taken' opts report a b run =
    λ e d. let r = the_run opts report t new input e b d in subst (λ (x : Effect). LeavesInput x.rest input a input') (sym r.4) (run.rest r.1 r.2)

no_refusal : (a : Answer) → IsRunAnswer a → IsNoRefusal a
no_refusal (answer.Refused name refusal) k = absurd k
no_refusal (answer.RefusedSource name refusal) k = absurd k
no_refusal (answer.Cpp fault) k = absurd k
no_refusal (answer.LinkRefused fault) k = absurd k
no_refusal (answer.BadFile name at) k = absurd k
no_refusal (answer.BadScript at) k = absurd k
no_refusal _ k = tt

made : (a : Answer) (P : Type 0) → P → IfMade a P
made answer.StoreFault P p = tt
made answer.NoMemory P p = tt
made _ P p = p

-- what was built before the run, whatever the input tells
done_built : (opts : Opts) (report : Report) (a : Answer) (told : Told) (new : Option Told) → IsRunAnswer a → ObeysBuild opts (Ok report) told new → HasBuilt opts a told new
done_built opts report a told new k b = record {
  found = made a ((comes : Result Outcome BuildFault) × SeenOutcome told.files opts comes) (Ok b.found.0, b.found.1);
  answers = λ comes h. subst (λ (x : Result Outcome BuildFault). AnswersOutcome x a) (sym (b.answers comes h).1) (no_refusal a k);
  puts = λ comes h. all_put (puts_of comes) a told new k (b.puts comes h);
}

pub run_built_so : (told new : Option Told) (opts : Opts) (report : Report) (a : Answer) → IsRunAnswer a → IfSome told (λ t. ObeysBuild opts (Ok report) t new) → IfSome told (λ t. HasBuilt opts a t new)
run_built_so None new opts report a k b = tt
run_built_so (Some t) new opts report a k b = done_built opts report a t new k b

run_due : (due : Option ℕ) (a : Answer) → IsRunAnswer a → IsLineDue due a None
run_due due (answer.Refused name refusal) k = absurd k
run_due due (answer.RefusedSource name refusal) k = absurd k
run_due due (answer.Undefined operation home token) k = absurd k
run_due due (answer.UndefinedSource operation home token) k = absurd k
run_due due _ k = tt

pub run_line : (told : Option Told) (a : Answer) → IsRunAnswer a → IfSome told (λ t. IsSeenLine t.files a None)
run_line None a k = tt
run_line (Some t) a k = λ shown is. run_due (refused_line (modules_of shown)) a k

pub run_is : (a : Answer) → IsRunAnswer a → IsGoAnswer a
run_is answer.Done k = absurd k
run_is answer.Usage k = absurd k
run_is (answer.Refused name refusal) k = absurd k
run_is (answer.RefusedSource name refusal) k = absurd k
run_is (answer.Cpp fault) k = absurd k
run_is (answer.LinkRefused fault) k = absurd k
run_is (answer.BadFile name at) k = absurd k
run_is (answer.BadScript at) k = absurd k
run_is (answer.NoFrames address) k = absurd k
run_is (answer.Undefined operation home token) k = absurd k
run_is (answer.UndefinedSource operation home token) k = absurd k
run_is _ k = tt

pub run_stores : (before now : ℕ) (a : Answer) → IsRunAnswer a → now ≡ before → StoreCount before now a
run_stores before now answer.StoreFault k e = absurd k
run_stores before now _ k e = e

pub run_streams : (a : Answer) (i i' o o' : Option (List ℕ)) → IsRunAnswer a → LeavesStreams a i i' o o'
run_streams answer.Usage i i' o o' k = absurd k
run_streams (answer.Refused name refusal) i i' o o' k = absurd k
run_streams (answer.RefusedSource name refusal) i i' o o' k = absurd k
run_streams (answer.Cpp fault) i i' o o' k = absurd k
run_streams (answer.LinkRefused fault) i i' o o' k = absurd k
run_streams (answer.BadFile name at) i i' o o' k = absurd k
run_streams answer.StoreFault i i' o o' k = absurd k
run_streams _ i i' o o' k = tt

-- ---- a build that was not done

-- the command comes to its refusal alone
told_alone : (fault : BuildFault) (budget : ℕ) (input : List ℕ) (comes : Result Outcome BuildFault) (e : Effect) → comes ≡ Err fault → GoOver budget input comes e → e ≡ answers_alone (fault_answer fault) input
told_alone fault budget input comes e is h = subst (λ (x : Result Outcome BuildFault). GoOver budget input x e) is h

fault_answers : (fault : BuildFault) (budget : ℕ) (input : List ℕ) (comes : Result Outcome BuildFault) (e : Effect) → AnswersFault comes fault → GoOver budget input comes e → Answers e.answer (fault_answer fault)
fault_answers (build.Refused name refusal) budget input comes e is h = ap (λ (x : Effect). x.answer) (told_alone (build.Refused name refusal) budget input comes e is h)
fault_answers (build.LinkRefused fault) budget input comes e is h = ap (λ (x : Effect). x.answer) (told_alone (build.LinkRefused fault) budget input comes e is h)
fault_answers build.StoreFault budget input comes e is h = tt
fault_answers build.NoMemory budget input comes e is h = tt

fault_found : (files : Files) (opts : RunOpts) (input : List ℕ) (fault : BuildFault) → FaultFound files opts.build fault → IsFound (GoEffect files opts input) (fault_answer fault)
fault_found files opts input (build.Refused name refusal) h = (answers_alone (answer.Refused name refusal) input, (Err (build.Refused name refusal), h, refl), refl)
fault_found files opts input (build.LinkRefused fault) h = (answers_alone (answer.LinkRefused fault) input, (Err (build.LinkRefused fault), h, refl), refl)
fault_found files opts input build.StoreFault h = tt
fault_found files opts input build.NoMemory h = tt

unbuilt_obeys : (opts : RunOpts) (unbuilt : Unbuilt) (told : Told) (new : Option Told) (input : List ℕ) → ObeysBuild opts.build (Err unbuilt) told new → Obeys (GoEffect told.files opts input) (fault_answer unbuilt.fault) told new
unbuilt_obeys opts unbuilt told new input b = record {
  answers = λ e d. fault_answers unbuilt.fault opts.budget input d.0 e (b.answers d.0 d.1) d.2;
  puts = λ e d. subst (λ (files : List NamedFile). PutsFiles files (fault_answer unbuilt.fault) told new) (puts_are opts.budget input d.0 e d.2) (b.puts d.0 d.1);
  found = fault_found told.files opts input unbuilt.fault b.found;
}

pub fault_obeys : (told new : Option Told) (old : Option (List ℕ)) (opts : RunOpts) (unbuilt : Unbuilt) (a : Answer) → a ≡ fault_answer unbuilt.fault → IfSome told (λ t. ObeysBuild opts.build (Err unbuilt) t new)
    → IfSome told (λ t. IfSome old (λ input. Obeys (GoEffect t.files opts input) a t new))
fault_obeys None new old opts unbuilt a is b = tt
fault_obeys (Some t) new None opts unbuilt a is b = tt
fault_obeys (Some t) new (Some input) opts unbuilt a is b =
    subst (λ (x : Answer). Obeys (GoEffect t.files opts input) x t new) (sym is) (unbuilt_obeys opts unbuilt t new input b)

refused_out : (fault : BuildFault) (budget : ℕ) (input : List ℕ) (comes : Result Outcome BuildFault) (e : Effect) (taken : Option (List ℕ)) → AnswersFault comes fault → GoOver budget input comes e → PutsOut e.output (fault_answer fault) taken taken
refused_out (build.Refused name refusal) budget input comes e taken is h =
    subst (λ (x : Effect). PutsOut x.output (answer.Refused name refusal) taken taken) (sym (told_alone (build.Refused name refusal) budget input comes e is h))
    (record { output = []; more = []; taken = appends_none taken; front = refl; whole = refl })
refused_out (build.LinkRefused fault) budget input comes e taken is h =
    subst (λ (x : Effect). PutsOut x.output (answer.LinkRefused fault) taken taken) (sym (told_alone (build.LinkRefused fault) budget input comes e is h))
    (record { output = []; more = []; taken = appends_none taken; front = refl; whole = refl })
refused_out build.StoreFault budget input comes e taken is h = record { output = []; more = e.output; taken = appends_none taken; front = refl; whole = tt }
refused_out build.NoMemory budget input comes e taken is h = none_out e.output taken

pub fault_output : (told new : Option Told) (old taken : Option (List ℕ)) (opts : RunOpts) (unbuilt : Unbuilt) (a : Answer) → a ≡ fault_answer unbuilt.fault → IfSome told (λ t. ObeysBuild opts.build (Err unbuilt) t new)
    → IfSome told (λ t. IfSome old (λ input. (e : Effect) → GoEffect t.files opts input e → PutsOut e.output a taken taken))
fault_output None new old taken opts unbuilt a is b = tt
fault_output (Some t) new None taken opts unbuilt a is b = tt
fault_output (Some t) new (Some input) taken opts unbuilt a is b =
    λ e d. subst (λ (x : Answer). PutsOut e.output x taken taken) (sym is) (refused_out unbuilt.fault opts.budget input d.0 e taken (b.answers d.0 d.1) d.2)

untouched : (input rest : List ℕ) → Ends input rest → WasReadInPart rest input (Some input)
untouched input rest ends = ([], ends.0, (refl, ends.1))

refused_rest : (fault : BuildFault) (budget : ℕ) (input : List ℕ) (comes : Result Outcome BuildFault) (e : Effect) → AnswersFault comes fault → GoOver budget input comes e → LeavesInput e.rest input (fault_answer fault) (Some input)
refused_rest (build.Refused name refusal) budget input comes e is h = ap (λ (x : Effect). Some x.rest) (sym (told_alone (build.Refused name refusal) budget input comes e is h))
refused_rest (build.LinkRefused fault) budget input comes e is h = ap (λ (x : Effect). Some x.rest) (sym (told_alone (build.LinkRefused fault) budget input comes e is h))
refused_rest build.StoreFault budget input comes e is h = untouched input e.rest (over_ends budget input comes e h)
refused_rest build.NoMemory budget input comes e is h = untouched input e.rest (over_ends budget input comes e h)

pub fault_rest : (told new : Option Told) (old : Option (List ℕ)) (opts : RunOpts) (unbuilt : Unbuilt) (a : Answer) → a ≡ fault_answer unbuilt.fault → IfSome told (λ t. ObeysBuild opts.build (Err unbuilt) t new)
    → IfSome told (λ t. IfSome old (λ input. (e : Effect) → GoEffect t.files opts input e → LeavesInput e.rest input a old))
fault_rest None new old opts unbuilt a is b = tt
fault_rest (Some t) new None opts unbuilt a is b = tt
fault_rest (Some t) new (Some input) opts unbuilt a is b =
    λ e d. subst (λ (x : Answer). LeavesInput e.rest input x (Some input)) (sym is) (refused_rest unbuilt.fault opts.budget input d.0 e (b.answers d.0 d.1) d.2)

-- what was built, whatever the input tells
fault_made : (files : Files) (opts : Opts) (fault : BuildFault) → FaultFound files opts fault → IfMade (fault_answer fault) ((comes : Result Outcome BuildFault) × SeenOutcome files opts comes)
fault_made files opts (build.Refused name refusal) h = (Err (build.Refused name refusal), h)
fault_made files opts (build.LinkRefused fault) h = (Err (build.LinkRefused fault), h)
fault_made files opts build.StoreFault h = tt
fault_made files opts build.NoMemory h = tt

unbuilt_built : (opts : Opts) (unbuilt : Unbuilt) (told : Told) (new : Option Told) → ObeysBuild opts (Err unbuilt) told new → HasBuilt opts (fault_answer unbuilt.fault) told new
unbuilt_built opts unbuilt told new b = record {
  found = fault_made told.files opts unbuilt.fault b.found;
  answers = λ comes h. refused_outcome unbuilt.fault comes (b.answers comes h);
  puts = λ comes h. b.puts comes h;
}

pub fault_built : (told new : Option Told) (opts : Opts) (unbuilt : Unbuilt) (a : Answer) → a ≡ fault_answer unbuilt.fault → IfSome told (λ t. ObeysBuild opts (Err unbuilt) t new) → IfSome told (λ t. HasBuilt opts a t new)
fault_built None new opts unbuilt a is b = tt
fault_built (Some t) new opts unbuilt a is b = subst (λ (x : Answer). HasBuilt opts x t new) (sym is) (unbuilt_built opts unbuilt t new b)

fault_is_go : (fault : BuildFault) → IsNoWant fault → IsGoAnswer (fault_answer fault)
fault_is_go (build.Refused name refusal) h = h
fault_is_go (build.LinkRefused fault) h = h
fault_is_go build.StoreFault h = tt
fault_is_go build.NoMemory h = tt

pub fault_is : (fault : BuildFault) (a : Answer) → a ≡ fault_answer fault → IsNoWant fault → IsGoAnswer a
fault_is fault a is h = subst IsGoAnswer (sym is) (fault_is_go fault h)

reads_none : (count : ℕ) (fault : BuildFault) → InputCount count count (fault_answer fault)
reads_none count (build.Refused name refusal) = refl
reads_none count (build.LinkRefused fault) = refl
reads_none count build.StoreFault = refl
reads_none count build.NoMemory = refl

pub fault_reads : (count : ℕ) (fault : BuildFault) (a : Answer) → a ≡ fault_answer fault → InputCount count count a
fault_reads count fault a is = subst (λ (x : Answer). InputCount count count x) (sym is) (reads_none count fault)
