-- What `where` did, by what its build did and by the look at a call.
use Rattle.std.proofs.Common.{◌≡◌, ℕ, List, [], ◌∷◌, Option, Some, None, Result, Ok, Err, refl, sym, ap, ◌∙◌, subst, append-nil}
use Rattle.std.specs.Prelude.{IfSome}
use Rattle.std.specs.List.{AllByRecursion}
use Rattle.pw_io.specs.Files.{Files, Told}
use Rattle.pw_object.specs.declared.object.Object.{Object}
use Rattle.pw_image.specs.declared.image.Image.{Image}
use Rattle.pw_debug.specs.declared.info.FrameInfo.{FrameInfo}
use Rattle.pw_debug_frames.specs.Frames.{IsMade}
use Rattle.pw_build_objects.specs.Programs.{WasMade}
use Rattle.pw_store_modules.specs.Modules.{modules_of}
use Rattle.pw_top_answer.specs.declared.answer.Answer.{Answer}
use Rattle.pw_top_answer.specs.declared.answer.Answer.TheVariants as answer
use Rattle.pw_top_answer.specs.Effects.{Effect, NamedFile, PutsFiles, after_puts, answers_alone}
use Rattle.pw_top_answer.specs.Outcomes.{Answers, InputCount, IsLineDue, IsNoRefusal, LeavesInput, LeavesStreams, PutsOut, StoreCount, WasReadInPart}
use Rattle.pw_commands.specs.Outcome.{IsFound, Obeys}
use Rattle.pw_commands.proofs.RunLemmas.{Ends, ends_itself}
use Rattle.pw_build_files.specs.FromBuild.BuildFault.{BuildFault}
use Rattle.pw_build_files.specs.FromBuild.BuildFault.TheVariants as build
use Rattle.pw_build_files.specs.FromBuild.Phases.{refused_line}
use Rattle.pw_build_files.specs.FromBuild.Unbuilt.{Unbuilt}
use Rattle.pw_build_opts.specs.declared.opts.Opts.{Opts}
use Rattle.pw_build_opts.specs.declared.opts.RunOpts.{RunOpts}
use Rattle.pw_build_files.specs.declared.report.Report.{Report}
use Rattle.pw_build_files.specs.Building.{Outcome, puts_of}
use Rattle.pw_build_files.specs.Seen.{IsSeenLine, SeenOutcome}
use Rattle.pw_build_files.specs.Outcomes.{AnswersFault, AnswersOutcome, FaultFound, IsNoWant, ObeysBuild, fault_answer}
use Rattle.pw_build_files.proofs.DrivingLemmas.{no_memory_out, refused_outcome}
use Rattle.pw_go.specs.Going.{HasBuilt, IfMade}
use Rattle.pw_commands_where.specs.Showing.{FileEffect, IsLookAnswer, IsWhereAnswer, LookEffect, WhereEffect, WhereOver, loses, passes, shows}
use Rattle.pw_commands_where.specs.Steps.{LooksAtFile}
use Rattle.pw_commands_where.proofs.LookLemmas.{appends_none, look_ends}

-- ---- the objects of a build

made_object : (o : Object) → WasMade o → IsMade o
made_object o made = record { flow = made.flow; stored = made.of.payload.0; flow_file = made.of.flow_file; payload = made.of.payload.2 }

pub made_objects : (os : List Object) → AllByRecursion WasMade os → AllByRecursion IsMade os
made_objects [] all = tt
made_objects (o ∷ os) all = (made_object o all.0, made_objects os all.1)

-- ---- what is put besides

-- the same behind the puts of other files
abbrev behind : List NamedFile → Effect → Effect
behind puts e = record { answer = e.answer; puts = puts; output = e.output; rest = e.rest }

look_behind : (image : Image) (objects : List Object) (frames : List FrameInfo) (k budget : ℕ) (input : List ℕ) (puts others : List NamedFile) (e : Effect) → LookEffect image objects frames k budget input puts e → LookEffect image objects frames k budget input others (behind others e)
look_behind image objects frames k budget input puts others e (shows lines rest at) = shows lines rest at
look_behind image objects frames k budget input puts others e (loses address rest at) = loses address rest at
look_behind image objects frames k budget input puts others e (passes p passing) = passes p passing

look_puts : (image : Image) (objects : List Object) (frames : List FrameInfo) (k budget : ℕ) (input : List ℕ) (puts : List NamedFile) (e : Effect) → LookEffect image objects frames k budget input puts e → e.puts ≡ puts
look_puts image objects frames k budget input puts e (shows lines rest at) = refl
look_puts image objects frames k budget input puts e (loses address rest at) = refl
look_puts image objects frames k budget input puts e (passes p passing) = refl

file_behind : (bytes : List ℕ) (objects : List Object) (k budget : ℕ) (input : List ℕ) (puts others : List NamedFile) (e : Effect) → FileEffect bytes objects k budget input puts e → FileEffect bytes objects k budget input others (behind others e)
file_behind bytes objects k budget input puts others e h = (h.0, h.1, h.2, h.3, look_behind h.0.value objects h.1 k budget input puts others e h.4)

-- ---- what the command comes to

over_ends : (budget k : ℕ) (input : List ℕ) (comes : Result Outcome BuildFault) (e : Effect) → WhereOver budget k input comes e → Ends input e.rest
over_ends budget k input (Ok outcome) e h = look_ends h.0.value outcome.linked_objects h.1 k budget input outcome.puts e h.4
over_ends budget k input (Err fault) e h = subst (λ (x : Effect). Ends input x.rest) (sym h) (ends_itself input)

pub where_ends : (files : Files) (opts : RunOpts) (k : ℕ) (input : List ℕ) (e : Effect) → WhereEffect files opts k input e → Ends input e.rest
where_ends files opts k input e d = over_ends opts.budget k input d.0 e d.2

puts_are : (budget k : ℕ) (input : List ℕ) (comes : Result Outcome BuildFault) (e : Effect) → WhereOver budget k input comes e → puts_of comes ≡ e.puts
puts_are budget k input (Ok outcome) e h = sym (look_puts h.0.value outcome.linked_objects h.1 k budget input outcome.puts e h.4)
puts_are budget k input (Err fault) e h = sym (ap (λ (x : Effect). x.puts) h)

-- ---- a build that was done, and a look at a call of its image

-- what the command comes to is a look at the image in the file that was built, behind the puts of what was put
the_look : (opts : RunOpts) (k : ℕ) (report : Report) (told : Told) (new : Option Told) (input : List ℕ) (e : Effect) → ObeysBuild opts.build (Ok report) told new → WhereEffect told.files opts k input e
    → (outcome : Outcome) × FileEffect report.image.items report.objects.items k opts.budget input outcome.puts e × (new ≡ Some (after_puts told outcome.puts)) × (e.puts ≡ outcome.puts)
the_look opts k report told new input e b d =
    let r = b.answers d.0 d.1 in
    let over : WhereOver opts.budget k input (Ok r.0) e = subst (λ (x : Result Outcome BuildFault). WhereOver opts.budget k input x e) r.1 d.2 in
    let put : new ≡ Some (after_puts told (puts_of (Ok r.0))) = subst (λ (x : Result Outcome BuildFault). new ≡ Some (after_puts told (puts_of x))) r.1 (b.puts d.0 d.1) in
    let image : FileEffect report.image.items r.0.linked_objects k opts.budget input r.0.puts e = subst (λ (i : List ℕ). FileEffect i r.0.linked_objects k opts.budget input r.0.puts e) (sym r.2.image) over in
    let puts : r.0.puts ≡ e.puts = puts_are opts.budget k input (Ok r.0) e over in
    (r.0, subst (λ (os : List Object). FileEffect report.image.items os k opts.budget input r.0.puts e) (sym r.2.objects) image, put, sym puts)

all_put : (files : List NamedFile) (a : Answer) (told : Told) (new : Option Told) → IsLookAnswer a → new ≡ Some (after_puts told files) → PutsFiles files a told new
all_put files answer.StoreFault told new k e = absurd k
all_put files answer.NoMemory told new k e = record { done = files; more = []; split = sym (append-nil files); left = e }
all_put files _ told new k e = e

-- the look at the image that was built is what the command comes to
found_look : (comes looks : Effect → Type 0) (a : Answer) → ((e : Effect) → looks e → (x : Effect) × comes x × (x.answer ≡ e.answer)) → IsFound looks a → IsFound comes a
found_look comes looks answer.ReadFault f h = let x = f h.0 h.1 in (x.0, x.1)
found_look comes looks answer.WriteFault f h = let x = f h.0 h.1 in (x.0, x.1)
found_look comes looks answer.StoreFault f h = tt
found_look comes looks answer.NoMemory f h = tt
found_look comes looks _ f h = let x = f h.0 h.1 in (x.0, x.1, x.2 ∙ h.2)

built_look : (opts : RunOpts) (k : ℕ) (report : Report) (told : Told) (new : Option Told) (input : List ℕ) (e : Effect) → ObeysBuild opts.build (Ok report) told new → FileEffect report.image.items report.objects.items k opts.budget input [] e
    → (x : Effect) × WhereEffect told.files opts k input x × (x.answer ≡ e.answer)
built_look opts k report told new input e b h =
    let outcome = b.found.0 in
    let r = b.found.2 in
    let image : FileEffect outcome.image report.objects.items k opts.budget input [] e = subst (λ (i : List ℕ). FileEffect i report.objects.items k opts.budget input [] e) r.image h in
    let objects : FileEffect outcome.image outcome.linked_objects k opts.budget input [] e = subst (λ (os : List Object). FileEffect outcome.image os k opts.budget input [] e) r.objects image in
    (behind outcome.puts e, (Ok outcome, b.found.1, file_behind outcome.image outcome.linked_objects k opts.budget input [] outcome.puts e objects), refl)

did_look : (opts : RunOpts) (k : ℕ) (report : Report) (a : Answer) (told : Told) (new : Option Told) (input : List ℕ) (input' taken taken' : Option (List ℕ)) → IsLookAnswer a → ObeysBuild opts.build (Ok report) told new
    → LooksAtFile report.image.items report.objects.items k opts.budget input a input' taken taken' → Obeys (WhereEffect told.files opts k input) a told new
did_look opts k report a told new input input' taken taken' is b look = record {
  answers = λ e d. let r = the_look opts k report told new input e b d in look.answers (behind [] e) (file_behind report.image.items report.objects.items k opts.budget input r.0.puts [] e r.1);
  puts = λ e d. let r = the_look opts k report told new input e b d in subst (λ (files : List NamedFile). PutsFiles files a told new) (sym r.3) (all_put r.0.puts a told new is r.2);
  found = found_look (WhereEffect told.files opts k input) (FileEffect report.image.items report.objects.items k opts.budget input []) a (λ e h. built_look opts k report told new input e b h) look.found;
}

pub look_obeys : (told new : Option Told) (old input' taken taken' : Option (List ℕ)) (opts : RunOpts) (k : ℕ) (report : Report) (a : Answer) → IsLookAnswer a → IfSome told (λ t. ObeysBuild opts.build (Ok report) t new)
    → IfSome old (λ input. LooksAtFile report.image.items report.objects.items k opts.budget input a input' taken taken') → IfSome told (λ t. IfSome old (λ input. Obeys (WhereEffect t.files opts k input) a t new))
look_obeys None new old input' taken taken' opts k report a is b look = tt
look_obeys (Some t) new None input' taken taken' opts k report a is b look = tt
look_obeys (Some t) new (Some input) input' taken taken' opts k report a is b look = did_look opts k report a t new input input' taken taken' is b look

pub look_output_is : (told new : Option Told) (old input' taken taken' : Option (List ℕ)) (opts : RunOpts) (k : ℕ) (report : Report) (a : Answer) → IfSome told (λ t. ObeysBuild opts.build (Ok report) t new)
    → IfSome old (λ input. LooksAtFile report.image.items report.objects.items k opts.budget input a input' taken taken') → IfSome told (λ t. IfSome old (λ input. (e : Effect) → WhereEffect t.files opts k input e → PutsOut e.output a taken taken'))
look_output_is None new old input' taken taken' opts k report a b look = tt
look_output_is (Some t) new None input' taken taken' opts k report a b look = tt
look_output_is (Some t) new (Some input) input' taken taken' opts k report a b look =
    λ e d. let r = the_look opts k report t new input e b d in look.output (behind [] e) (file_behind report.image.items report.objects.items k opts.budget input r.0.puts [] e r.1)

pub look_rest_is : (told new : Option Told) (old input' taken taken' : Option (List ℕ)) (opts : RunOpts) (k : ℕ) (report : Report) (a : Answer) → IfSome told (λ t. ObeysBuild opts.build (Ok report) t new)
    → IfSome old (λ input. LooksAtFile report.image.items report.objects.items k opts.budget input a input' taken taken') → IfSome told (λ t. IfSome old (λ input. (e : Effect) → WhereEffect t.files opts k input e → LeavesInput e.rest input a input'))
look_rest_is None new old input' taken taken' opts k report a b look = tt
look_rest_is (Some t) new None input' taken taken' opts k report a b look = tt
look_rest_is (Some t) new (Some input) input' taken taken' opts k report a b look =
    λ e d. let r = the_look opts k report t new input e b d in look.rest (behind [] e) (file_behind report.image.items report.objects.items k opts.budget input r.0.puts [] e r.1)

no_refusal : (a : Answer) → IsLookAnswer a → IsNoRefusal a
no_refusal (answer.Refused name refusal) k = absurd k
no_refusal (answer.RefusedSource name refusal) k = absurd k
no_refusal (answer.Cpp fault) k = absurd k
no_refusal (answer.LinkRefused fault) k = absurd k
no_refusal (answer.BadFile name at) k = absurd k
no_refusal (answer.BadScript at) k = absurd k
no_refusal _ k = tt

made : (a : Answer) (P : Type 0) → P → IfMade a P
made answer.StoreFault P p = tt
made answer.NoMemory P p = tt
made _ P p = p

-- what was built before the look, whatever the input tells
done_built : (opts : Opts) (report : Report) (a : Answer) (told : Told) (new : Option Told) → IsLookAnswer a → ObeysBuild opts (Ok report) told new → HasBuilt opts a told new
done_built opts report a told new k b = record {
  found = made a ((comes : Result Outcome BuildFault) × SeenOutcome told.files opts comes) (Ok b.found.0, b.found.1);
  answers = λ comes h. subst (λ (x : Result Outcome BuildFault). AnswersOutcome x a) (sym (b.answers comes h).1) (no_refusal a k);
  puts = λ comes h. all_put (puts_of comes) a told new k (b.puts comes h);
}

pub look_built_so : (told new : Option Told) (opts : Opts) (report : Report) (a : Answer) → IsLookAnswer a → IfSome told (λ t. ObeysBuild opts (Ok report) t new) → IfSome told (λ t. HasBuilt opts a t new)
look_built_so None new opts report a k b = tt
look_built_so (Some t) new opts report a k b = done_built opts report a t new k b

look_due : (due : Option ℕ) (a : Answer) → IsLookAnswer a → IsLineDue due a None
look_due due (answer.Refused name refusal) k = absurd k
look_due due (answer.RefusedSource name refusal) k = absurd k
look_due due (answer.Undefined operation home token) k = absurd k
look_due due (answer.UndefinedSource operation home token) k = absurd k
look_due due _ k = tt

pub look_line : (told : Option Told) (a : Answer) → IsLookAnswer a → IfSome told (λ t. IsSeenLine t.files a None)
look_line None a k = tt
look_line (Some t) a k = λ shown is. look_due (refused_line (modules_of shown)) a k

pub look_is_where : (a : Answer) → IsLookAnswer a → IsWhereAnswer a
look_is_where answer.Usage k = absurd k
look_is_where (answer.Refused name refusal) k = absurd k
look_is_where (answer.RefusedSource name refusal) k = absurd k
look_is_where (answer.Cpp fault) k = absurd k
look_is_where (answer.LinkRefused fault) k = absurd k
look_is_where (answer.BadFile name at) k = absurd k
look_is_where (answer.BadScript at) k = absurd k
look_is_where (answer.Undefined operation home token) k = absurd k
look_is_where (answer.UndefinedSource operation home token) k = absurd k
look_is_where _ k = tt

pub look_stores : (before now : ℕ) (a : Answer) → IsLookAnswer a → now ≡ before → StoreCount before now a
look_stores before now answer.StoreFault k e = absurd k
look_stores before now _ k e = e

pub look_streams : (a : Answer) (i i' o o' : Option (List ℕ)) → IsLookAnswer a → LeavesStreams a i i' o o'
look_streams answer.Usage i i' o o' k = absurd k
look_streams (answer.Refused name refusal) i i' o o' k = absurd k
look_streams (answer.RefusedSource name refusal) i i' o o' k = absurd k
look_streams (answer.Cpp fault) i i' o o' k = absurd k
look_streams (answer.LinkRefused fault) i i' o o' k = absurd k
look_streams (answer.BadFile name at) i i' o o' k = absurd k
look_streams answer.StoreFault i i' o o' k = absurd k
look_streams _ i i' o o' k = tt

-- ---- a build that was not done

-- the command comes to its refusal alone
told_alone : (fault : BuildFault) (budget k : ℕ) (input : List ℕ) (comes : Result Outcome BuildFault) (e : Effect) → comes ≡ Err fault → WhereOver budget k input comes e → e ≡ answers_alone (fault_answer fault) input
told_alone fault budget k input comes e is h = subst (λ (x : Result Outcome BuildFault). WhereOver budget k input x e) is h

fault_answers : (fault : BuildFault) (budget k : ℕ) (input : List ℕ) (comes : Result Outcome BuildFault) (e : Effect) → AnswersFault comes fault → WhereOver budget k input comes e → Answers e.answer (fault_answer fault)
fault_answers (build.Refused name refusal) budget k input comes e is h = ap (λ (x : Effect). x.answer) (told_alone (build.Refused name refusal) budget k input comes e is h)
fault_answers (build.LinkRefused fault) budget k input comes e is h = ap (λ (x : Effect). x.answer) (told_alone (build.LinkRefused fault) budget k input comes e is h)
fault_answers build.StoreFault budget k input comes e is h = tt
fault_answers build.NoMemory budget k input comes e is h = tt

fault_found : (files : Files) (opts : RunOpts) (k : ℕ) (input : List ℕ) (fault : BuildFault) → FaultFound files opts.build fault → IsFound (WhereEffect files opts k input) (fault_answer fault)
fault_found files opts k input (build.Refused name refusal) h = (answers_alone (answer.Refused name refusal) input, (Err (build.Refused name refusal), h, refl), refl)
fault_found files opts k input (build.LinkRefused fault) h = (answers_alone (answer.LinkRefused fault) input, (Err (build.LinkRefused fault), h, refl), refl)
fault_found files opts k input build.StoreFault h = tt
fault_found files opts k input build.NoMemory h = tt

unbuilt_obeys : (opts : RunOpts) (k : ℕ) (unbuilt : Unbuilt) (told : Told) (new : Option Told) (input : List ℕ) → ObeysBuild opts.build (Err unbuilt) told new → Obeys (WhereEffect told.files opts k input) (fault_answer unbuilt.fault) told new
unbuilt_obeys opts k unbuilt told new input b = record {
  answers = λ e d. fault_answers unbuilt.fault opts.budget k input d.0 e (b.answers d.0 d.1) d.2;
  puts = λ e d. subst (λ (files : List NamedFile). PutsFiles files (fault_answer unbuilt.fault) told new) (puts_are opts.budget k input d.0 e d.2) (b.puts d.0 d.1);
  found = fault_found told.files opts k input unbuilt.fault b.found;
}

pub fault_obeys : (told new : Option Told) (old : Option (List ℕ)) (opts : RunOpts) (k : ℕ) (unbuilt : Unbuilt) (a : Answer) → a ≡ fault_answer unbuilt.fault → IfSome told (λ t. ObeysBuild opts.build (Err unbuilt) t new)
    → IfSome told (λ t. IfSome old (λ input. Obeys (WhereEffect t.files opts k input) a t new))
fault_obeys None new old opts k unbuilt a is b = tt
fault_obeys (Some t) new None opts k unbuilt a is b = tt
fault_obeys (Some t) new (Some input) opts k unbuilt a is b =
    subst (λ (x : Answer). Obeys (WhereEffect t.files opts k input) x t new) (sym is) (unbuilt_obeys opts k unbuilt t new input b)

refused_out : (fault : BuildFault) (budget k : ℕ) (input : List ℕ) (comes : Result Outcome BuildFault) (e : Effect) (taken : Option (List ℕ)) → AnswersFault comes fault → WhereOver budget k input comes e → PutsOut e.output (fault_answer fault) taken taken
refused_out (build.Refused name refusal) budget k input comes e taken is h =
    subst (λ (x : Effect). PutsOut x.output (answer.Refused name refusal) taken taken) (sym (told_alone (build.Refused name refusal) budget k input comes e is h))
    (record { output = []; more = []; taken = appends_none taken; front = refl; whole = refl })
refused_out (build.LinkRefused fault) budget k input comes e taken is h =
    subst (λ (x : Effect). PutsOut x.output (answer.LinkRefused fault) taken taken) (sym (told_alone (build.LinkRefused fault) budget k input comes e is h))
    (record { output = []; more = []; taken = appends_none taken; front = refl; whole = refl })
refused_out build.StoreFault budget k input comes e taken is h = record { output = []; more = e.output; taken = appends_none taken; front = refl; whole = tt }
refused_out build.NoMemory budget k input comes e taken is h = no_memory_out e.output taken

pub fault_output : (told new : Option Told) (old taken : Option (List ℕ)) (opts : RunOpts) (k : ℕ) (unbuilt : Unbuilt) (a : Answer) → a ≡ fault_answer unbuilt.fault → IfSome told (λ t. ObeysBuild opts.build (Err unbuilt) t new)
    → IfSome told (λ t. IfSome old (λ input. (e : Effect) → WhereEffect t.files opts k input e → PutsOut e.output a taken taken))
fault_output None new old taken opts k unbuilt a is b = tt
fault_output (Some t) new None taken opts k unbuilt a is b = tt
fault_output (Some t) new (Some input) taken opts k unbuilt a is b =
    λ e d. subst (λ (x : Answer). PutsOut e.output x taken taken) (sym is) (refused_out unbuilt.fault opts.budget k input d.0 e taken (b.answers d.0 d.1) d.2)

untouched : (input rest : List ℕ) → Ends input rest → WasReadInPart rest input (Some input)
untouched input rest ends = ([], ends.0, (refl, ends.1))

refused_rest : (fault : BuildFault) (budget k : ℕ) (input : List ℕ) (comes : Result Outcome BuildFault) (e : Effect) → AnswersFault comes fault → WhereOver budget k input comes e → LeavesInput e.rest input (fault_answer fault) (Some input)
refused_rest (build.Refused name refusal) budget k input comes e is h = ap (λ (x : Effect). Some x.rest) (sym (told_alone (build.Refused name refusal) budget k input comes e is h))
refused_rest (build.LinkRefused fault) budget k input comes e is h = ap (λ (x : Effect). Some x.rest) (sym (told_alone (build.LinkRefused fault) budget k input comes e is h))
refused_rest build.StoreFault budget k input comes e is h = untouched input e.rest (over_ends budget k input comes e h)
refused_rest build.NoMemory budget k input comes e is h = untouched input e.rest (over_ends budget k input comes e h)

pub fault_rest : (told new : Option Told) (old : Option (List ℕ)) (opts : RunOpts) (k : ℕ) (unbuilt : Unbuilt) (a : Answer) → a ≡ fault_answer unbuilt.fault → IfSome told (λ t. ObeysBuild opts.build (Err unbuilt) t new)
    → IfSome told (λ t. IfSome old (λ input. (e : Effect) → WhereEffect t.files opts k input e → LeavesInput e.rest input a old))
fault_rest None new old opts k unbuilt a is b = tt
fault_rest (Some t) new None opts k unbuilt a is b = tt
fault_rest (Some t) new (Some input) opts k unbuilt a is b =
    λ e d. subst (λ (x : Answer). LeavesInput e.rest input x (Some input)) (sym is) (refused_rest unbuilt.fault opts.budget k input d.0 e (b.answers d.0 d.1) d.2)

-- what was built, whatever the input tells
fault_made : (files : Files) (opts : Opts) (fault : BuildFault) → FaultFound files opts fault → IfMade (fault_answer fault) ((comes : Result Outcome BuildFault) × SeenOutcome files opts comes)
fault_made files opts (build.Refused name refusal) h = (Err (build.Refused name refusal), h)
fault_made files opts (build.LinkRefused fault) h = (Err (build.LinkRefused fault), h)
fault_made files opts build.StoreFault h = tt
fault_made files opts build.NoMemory h = tt

unbuilt_built : (opts : Opts) (unbuilt : Unbuilt) (told : Told) (new : Option Told) → ObeysBuild opts (Err unbuilt) told new → HasBuilt opts (fault_answer unbuilt.fault) told new
unbuilt_built opts unbuilt told new b = record {
  found = fault_made told.files opts unbuilt.fault b.found;
  answers = λ comes h. refused_outcome unbuilt.fault comes (b.answers comes h);
  puts = λ comes h. b.puts comes h;
}

pub fault_built : (told new : Option Told) (opts : Opts) (unbuilt : Unbuilt) (a : Answer) → a ≡ fault_answer unbuilt.fault → IfSome told (λ t. ObeysBuild opts (Err unbuilt) t new) → IfSome told (λ t. HasBuilt opts a t new)
fault_built None new opts unbuilt a is b = tt
fault_built (Some t) new opts unbuilt a is b = subst (λ (x : Answer). HasBuilt opts x t new) (sym is) (unbuilt_built opts unbuilt t new b)

fault_is_where : (fault : BuildFault) → IsNoWant fault → IsWhereAnswer (fault_answer fault)
fault_is_where (build.Refused name refusal) h = h
fault_is_where (build.LinkRefused fault) h = h
fault_is_where build.StoreFault h = tt
fault_is_where build.NoMemory h = tt

pub fault_is : (fault : BuildFault) (a : Answer) → a ≡ fault_answer fault → IsNoWant fault → IsWhereAnswer a
fault_is fault a is h = subst IsWhereAnswer (sym is) (fault_is_where fault h)

reads_none : (count : ℕ) (fault : BuildFault) → InputCount count count (fault_answer fault)
reads_none count (build.Refused name refusal) = refl
reads_none count (build.LinkRefused fault) = refl
reads_none count build.StoreFault = refl
reads_none count build.NoMemory = refl

pub fault_reads : (count : ℕ) (fault : BuildFault) (a : Answer) → a ≡ fault_answer fault → InputCount count count a
fault_reads count fault a is = subst (λ (x : Answer). InputCount count count x) (sym is) (reads_none count fault)
