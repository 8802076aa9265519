-- What the command did, by what its build did and what was put out.
use Rattle.std.proofs.Common.{◌≡◌, ℕ, List, [], length, Option, Some, None, Result, Ok, Err, refl, sym, ap, ◌∙◌, subst, append-nil}
use Rattle.std.specs.Prelude.{IfErr, IfSome}
use Rattle.pw_io.specs.Files.{Files, Told}
use Rattle.pw_io.specs.Streams.{Appends}
use Rattle.pw_top_answer.specs.declared.answer.Answer.{Answer}
use Rattle.pw_top_answer.specs.declared.answer.Answer.TheVariants as answer
use Rattle.pw_top_answer.specs.Effects.{Effect, NamedFile, PutsFiles, after_puts}
use Rattle.pw_top_answer.specs.Outcomes.{Answers, IsLineDue, IsNoRefusal, IsPrintAnswer, LeavesStreams, OutputCount, PutsOut, StoreCount}
use Rattle.pw_store_modules.specs.Modules.{modules_of}
use Rattle.pw_build_files.specs.FromBuild.BuildFault.{BuildFault}
use Rattle.pw_build_files.specs.FromBuild.BuildFault.TheVariants as build
use Rattle.pw_build_files.specs.FromBuild.Unbuilt.{Unbuilt}
use Rattle.pw_build_files.specs.FromBuild.Phases.{IsLine, refused_line}
use Rattle.pw_build_opts.specs.declared.opts.Opts.{Opts}
use Rattle.pw_build_files.specs.declared.report.Report.{Report}
use Rattle.pw_build_files.specs.Building.{Outcome, puts_of}
use Rattle.pw_build_files.specs.Seen.{IsSeenLine, SeenOutcome}
use Rattle.pw_build_files.specs.Lines.{report_lines, report_text}
use Rattle.pw_build_files.specs.Outcomes.{AnswersFault, AnswersOutcome, FaultFound, IsLineOfBuild, IsNoWant, IsOfStore, ObeysBuild, Reports, fault_answer}
use Rattle.pw_commands.specs.Outcome.{IsFound, Obeys}
use Rattle.pw_build_files.specs.Driving.{BuildEffect, IsBuildAnswer, built_effect, outcome_lines}

appends_none : (taken : Option (List ℕ)) → Appends taken taken []
appends_none None = tt
appends_none (Some xs) = sym (append-nil xs)

-- ---- a build that is done

done_answers : (a : Answer) → IsPrintAnswer a → Answers answer.Done a
done_answers answer.Done h = refl
done_answers answer.WriteFault h = tt
done_answers answer.NoMemory h = tt
done_answers _ h = absurd h

all_put : (files : List NamedFile) (a : Answer) (told : Told) (new : Option Told) → IsPrintAnswer a → new ≡ Some (after_puts told files) → PutsFiles files a told new
all_put files answer.Done told new h e = e
all_put files answer.WriteFault told new h e = e
all_put files answer.NoMemory told new h e = record { done = files; more = []; split = sym (append-nil files); left = e }
all_put files _ told new h e = absurd h

found_done : (comes : Effect → Type 0) (one : Effect) (a : Answer) → comes one → one.answer ≡ answer.Done → IsPrintAnswer a → IsFound comes a
found_done comes one answer.Done c e h = (one, c, e)
found_done comes one answer.WriteFault c e h = (one, c)
found_done comes one answer.NoMemory c e h = tt
found_done comes one _ c e h = absurd h

reported : (opts : Opts) (report : Report) (a : Answer) (told : Told) (new : Option Told) (input : List ℕ) → IsPrintAnswer a → ObeysBuild opts (Ok report) told new → Obeys (BuildEffect told.files opts input) a told new
reported opts report a told new input ok b = record {
  answers = λ e d. subst (λ (x : Effect). Answers x.answer a) (sym (is e d)) (done_answers a ok);
  puts = λ e d. subst (λ (x : Effect). PutsFiles x.puts a told new) (sym (is e d)) (all_put (b.answers d.0 d.1).0.puts a told new ok (put e d));
  found = found_done (BuildEffect told.files opts input) (built_effect (Ok b.found.0) input) a (Ok b.found.0, b.found.1, refl) refl ok;
}
  where
    is : (e : Effect) (d : BuildEffect told.files opts input e) → e ≡ built_effect (Ok (b.answers d.0 d.1).0) input
    is e d = d.2 ∙ ap (λ (c : Result Outcome BuildFault). built_effect c input) (b.answers d.0 d.1).1

    put : (e : Effect) (d : BuildEffect told.files opts input e) → new ≡ Some (after_puts told (b.answers d.0 d.1).0.puts)
    put e d = subst (λ (c : Result Outcome BuildFault). new ≡ Some (after_puts told (puts_of c))) (b.answers d.0 d.1).1 (b.puts d.0 d.1)

pub report_obeys : (told new : Option Told) (opts : Opts) (report : Report) (a : Answer) → IsPrintAnswer a → IfSome told (λ t. ObeysBuild opts (Ok report) t new)
    → IfSome told (λ t. (input : List ℕ) → Obeys (BuildEffect t.files opts input) a t new)
report_obeys None new opts report a ok h = tt
report_obeys (Some t) new opts report a ok h = λ input. reported opts report a t new input ok h

-- the lines of a report are those of its outcome
lines_are : (outcome : Outcome) (report : Report) → Reports outcome report → report_text report ≡ outcome_lines outcome
lines_are outcome report r =
    ap (λ (names : List (List ℕ)). report_lines (length names) report.modules (length report.image.items) report.digest) r.rebuilt
    ∙ ap (λ (n : ℕ). report_lines (length outcome.rebuilt) n (length report.image.items) report.digest) r.modules
    ∙ ap (λ (bytes : List ℕ). report_lines (length outcome.rebuilt) outcome.modules (length bytes) report.digest) r.image
    ∙ ap (λ (digest : List ℕ). report_lines (length outcome.rebuilt) outcome.modules (length outcome.image) digest) r.digest

put_out : (opts : Opts) (report : Report) (a : Answer) (told : Told) (new : Option Told) (old taken : Option (List ℕ)) (input : List ℕ) (e : Effect) → ObeysBuild opts (Ok report) told new → PutsOut (report_text report) a old taken
    → BuildEffect told.files opts input e → PutsOut e.output a old taken
put_out opts report a told new old taken input e b out d =
    let r = b.answers d.0 d.1 in
    let is : e ≡ built_effect (Ok r.0) input = d.2 ∙ ap (λ (c : Result Outcome BuildFault). built_effect c input) r.1 in
    let lines : PutsOut (outcome_lines r.0) a old taken = subst (λ (text : List ℕ). PutsOut text a old taken) (lines_are r.0 report r.2) out in
    subst (λ (x : Effect). PutsOut x.output a old taken) (sym is) lines

pub report_output : (told new : Option Told) (opts : Opts) (report : Report) (a : Answer) (old taken : Option (List ℕ)) → IfSome told (λ t. ObeysBuild opts (Ok report) t new) → PutsOut (report_text report) a old taken
    → IfSome told (λ t. (input : List ℕ) (e : Effect) → BuildEffect t.files opts input e → PutsOut e.output a old taken)
report_output None new opts report a old taken h out = tt
report_output (Some t) new opts report a old taken h out = λ input e d. put_out opts report a t new old taken input e h out d

-- nothing was put out for want of memory
pub no_memory_out : (wanted : List ℕ) (taken : Option (List ℕ)) → PutsOut wanted answer.NoMemory taken taken
no_memory_out wanted taken = record { output = []; more = wanted; taken = appends_none taken; front = refl; whole = tt }

pub report_answer : (a : Answer) → IsPrintAnswer a → IsBuildAnswer a
report_answer answer.Done h = tt
report_answer answer.WriteFault h = tt
report_answer answer.NoMemory h = tt
report_answer _ h = absurd h

pub report_count : (before now : ℕ) (a : Answer) → IsPrintAnswer a → now ≡ before → StoreCount before now a
report_count before now answer.Done h e = e
report_count before now answer.WriteFault h e = e
report_count before now answer.NoMemory h e = e
report_count before now _ h e = absurd h

pub report_streams : (a : Answer) (i i' o o' : Option (List ℕ)) → IsPrintAnswer a → LeavesStreams a i i' o o'
report_streams answer.Done i i' o o' h = tt
report_streams answer.WriteFault i i' o o' h = tt
report_streams answer.NoMemory i i' o o' h = tt
report_streams _ i i' o o' h = absurd h

report_due : (due : Option ℕ) (a : Answer) (line : Option ℕ) → IsPrintAnswer a → IsLineDue due a line
report_due due answer.Done line h = tt
report_due due answer.WriteFault line h = tt
report_due due answer.NoMemory line h = tt
report_due due _ line h = absurd h

pub report_line : (told : Option Told) (a : Answer) (line : Option ℕ) → IsPrintAnswer a → IfSome told (λ t. IsSeenLine t.files a line)
report_line None a line h = tt
report_line (Some t) a line h = λ shown is. report_due (refused_line (modules_of shown)) a line h

-- ---- a build that was not done

fault_answers : (comes : Result Outcome BuildFault) (fault : BuildFault) (input : List ℕ) → AnswersFault comes fault → Answers (built_effect comes input).answer (fault_answer fault)
fault_answers comes (build.Refused name refusal) input h = ap (λ (c : Result Outcome BuildFault). (built_effect c input).answer) h
fault_answers comes (build.LinkRefused fault) input h = ap (λ (c : Result Outcome BuildFault). (built_effect c input).answer) h
fault_answers comes build.StoreFault input h = tt
fault_answers comes build.NoMemory input h = tt

puts_are : (comes : Result Outcome BuildFault) (input : List ℕ) → puts_of comes ≡ (built_effect comes input).puts
puts_are (Ok outcome) input = refl
puts_are (Err fault) input = refl

fault_found : (files : Files) (opts : Opts) (fault : BuildFault) (input : List ℕ) → FaultFound files opts fault → IsFound (BuildEffect files opts input) (fault_answer fault)
fault_found files opts (build.Refused name refusal) input h = (built_effect (Err (build.Refused name refusal)) input, (Err (build.Refused name refusal), h, refl), refl)
fault_found files opts (build.LinkRefused fault) input h = (built_effect (Err (build.LinkRefused fault)) input, (Err (build.LinkRefused fault), h, refl), refl)
fault_found files opts build.StoreFault input h = tt
fault_found files opts build.NoMemory input h = tt

unbuilt_obeys : (opts : Opts) (unbuilt : Unbuilt) (told : Told) (new : Option Told) (input : List ℕ) → ObeysBuild opts (Err unbuilt) told new → Obeys (BuildEffect told.files opts input) (fault_answer unbuilt.fault) told new
unbuilt_obeys opts unbuilt told new input b = record {
  answers = λ e d. subst (λ (x : Effect). Answers x.answer (fault_answer unbuilt.fault)) (sym d.2) (fault_answers d.0 unbuilt.fault input (b.answers d.0 d.1));
  puts = λ e d.
      subst (λ (x : Effect). PutsFiles x.puts (fault_answer unbuilt.fault) told new) (sym d.2)
      (subst (λ (files : List NamedFile). PutsFiles files (fault_answer unbuilt.fault) told new) (puts_are d.0 input) (b.puts d.0 d.1));
  found = fault_found told.files opts unbuilt.fault input b.found;
}

pub fault_obeys : (told new : Option Told) (opts : Opts) (unbuilt : Unbuilt) (a : Answer) → a ≡ fault_answer unbuilt.fault → IfSome told (λ t. ObeysBuild opts (Err unbuilt) t new)
    → IfSome told (λ t. (input : List ℕ) → Obeys (BuildEffect t.files opts input) a t new)
fault_obeys None new opts unbuilt a e h = tt
fault_obeys (Some t) new opts unbuilt a e h =
    λ input. subst (λ (x : Answer). Obeys (BuildEffect t.files opts input) x t new) (sym e) (unbuilt_obeys opts unbuilt t new input h)

-- nothing was put out
none_out : (comes : Result Outcome BuildFault) (fault : BuildFault) (input : List ℕ) (taken : Option (List ℕ)) → AnswersFault comes fault → PutsOut (built_effect comes input).output (fault_answer fault) taken taken
none_out comes (build.Refused name refusal) input taken h =
    subst (λ (c : Result Outcome BuildFault). PutsOut (built_effect c input).output (answer.Refused name refusal) taken taken) (sym h)
    (record { output = []; more = []; taken = appends_none taken; front = refl; whole = refl })
none_out comes (build.LinkRefused fault) input taken h =
    subst (λ (c : Result Outcome BuildFault). PutsOut (built_effect c input).output (answer.LinkRefused fault) taken taken) (sym h)
    (record { output = []; more = []; taken = appends_none taken; front = refl; whole = refl })
none_out comes build.StoreFault input taken h = record { output = []; more = (built_effect comes input).output; taken = appends_none taken; front = refl; whole = tt }
none_out comes build.NoMemory input taken h = record { output = []; more = (built_effect comes input).output; taken = appends_none taken; front = refl; whole = tt }

pub fault_output : (told new : Option Told) (opts : Opts) (unbuilt : Unbuilt) (a : Answer) (taken : Option (List ℕ)) → a ≡ fault_answer unbuilt.fault → IfSome told (λ t. ObeysBuild opts (Err unbuilt) t new)
    → IfSome told (λ t. (input : List ℕ) (e : Effect) → BuildEffect t.files opts input e → PutsOut e.output a taken taken)
fault_output None new opts unbuilt a taken e h = tt
fault_output (Some t) new opts unbuilt a taken e h =
    λ input x d. subst (λ (b : Answer). PutsOut x.output b taken taken) (sym e)
    (subst (λ (y : Effect). PutsOut y.output (fault_answer unbuilt.fault) taken taken) (sym d.2) (none_out d.0 unbuilt.fault input taken (h.answers d.0 d.1)))

is_build_answer : (fault : BuildFault) → IsNoWant fault → IsBuildAnswer (fault_answer fault)
is_build_answer (build.Refused name refusal) h = h
is_build_answer (build.LinkRefused fault) h = h
is_build_answer build.StoreFault h = tt
is_build_answer build.NoMemory h = tt

pub fault_is_answer : (fault : BuildFault) (a : Answer) → a ≡ fault_answer fault → IsNoWant fault → IsBuildAnswer a
fault_is_answer fault a e h = subst IsBuildAnswer (sym e) (is_build_answer fault h)

streams_left : (fault : BuildFault) (i o : Option (List ℕ)) → LeavesStreams (fault_answer fault) i i o o
streams_left (build.Refused name refusal) i o = (refl, refl)
streams_left (build.LinkRefused fault) i o = (refl, refl)
streams_left build.StoreFault i o = (refl, refl)
streams_left build.NoMemory i o = tt

writes_none : (count : ℕ) (fault : BuildFault) → OutputCount count count (fault_answer fault)
writes_none count (build.Refused name refusal) = refl
writes_none count (build.LinkRefused fault) = refl
writes_none count build.StoreFault = refl
writes_none count build.NoMemory = refl

pub fault_writes : (count : ℕ) (fault : BuildFault) (a : Answer) → a ≡ fault_answer fault → OutputCount count count a
fault_writes count fault a e = subst (λ (x : Answer). OutputCount count count x) (sym e) (writes_none count fault)

pub fault_streams : (fault : BuildFault) (a : Answer) (i o : Option (List ℕ)) → a ≡ fault_answer fault → LeavesStreams a i i o o
fault_streams fault a i o e = subst (λ (x : Answer). LeavesStreams x i i o o) (sym e) (streams_left fault i o)

line_due : (due : Option ℕ) (fault : BuildFault) (line : Option ℕ) → IsLine due fault line → IsLineDue due (fault_answer fault) line
line_due due (build.Refused name refusal) line h = h
line_due due (build.LinkRefused fault) line h = tt
line_due due build.StoreFault line h = tt
line_due due build.NoMemory line h = tt

pub fault_line : (told : Option Told) (unbuilt : Unbuilt) (a : Answer) (line : Option ℕ) → a ≡ fault_answer unbuilt.fault → line ≡ unbuilt.line → IfSome told (λ t. IsLineOfBuild t.files (Err unbuilt))
    → IfSome told (λ t. IsSeenLine t.files a line)
fault_line None unbuilt a line e f h = tt
fault_line (Some t) unbuilt a line e f h = λ shown is. rw (e, f) (line_due (refused_line (modules_of shown)) unbuilt.fault unbuilt.line (h shown is))

-- ---- refusals, whatever the input tells

print_no_refusal : (a : Answer) → IsPrintAnswer a → IsNoRefusal a
print_no_refusal answer.Done h = tt
print_no_refusal answer.WriteFault h = tt
print_no_refusal answer.NoMemory h = tt
print_no_refusal _ h = absurd h

pub report_refusal : (told new : Option Told) (opts : Opts) (report : Report) (a : Answer) → IsPrintAnswer a → IfSome told (λ t. ObeysBuild opts (Ok report) t new)
    → IfSome told (λ t. (comes : Result Outcome BuildFault) → SeenOutcome t.files opts comes → AnswersOutcome comes a)
report_refusal None new opts report a ok h = tt
report_refusal (Some t) new opts report a ok h = λ comes b. subst (λ (x : Result Outcome BuildFault). AnswersOutcome x a) (sym (h.answers comes b).1) (print_no_refusal a ok)

in_store : (comes : Result Outcome BuildFault) → AnswersOutcome comes answer.StoreFault
in_store (Ok outcome) = tt
in_store (Err fault) = tt

in_memory : (comes : Result Outcome BuildFault) → AnswersOutcome comes answer.NoMemory
in_memory (Ok outcome) = tt
in_memory (Err fault) = tt

pub refused_outcome : (fault : BuildFault) (comes : Result Outcome BuildFault) → AnswersFault comes fault → AnswersOutcome comes (fault_answer fault)
refused_outcome (build.Refused name refusal) comes is = subst (λ (x : Result Outcome BuildFault). AnswersOutcome x (answer.Refused name refusal)) (sym is) refl
refused_outcome (build.LinkRefused fault) comes is = subst (λ (x : Result Outcome BuildFault). AnswersOutcome x (answer.LinkRefused fault)) (sym is) refl
refused_outcome build.StoreFault comes is = in_store comes
refused_outcome build.NoMemory comes is = in_memory comes

pub fault_refusal : (told new : Option Told) (opts : Opts) (unbuilt : Unbuilt) (a : Answer) → a ≡ fault_answer unbuilt.fault → IfSome told (λ t. ObeysBuild opts (Err unbuilt) t new)
    → IfSome told (λ t. (comes : Result Outcome BuildFault) → SeenOutcome t.files opts comes → AnswersOutcome comes a)
fault_refusal None new opts unbuilt a e h = tt
fault_refusal (Some t) new opts unbuilt a e h = λ comes b. subst (AnswersOutcome comes) (sym e) (refused_outcome unbuilt.fault comes (h.answers comes b))

-- ---- the line where the store failed or memory ran out while files were put

putting_line : (due : Option ℕ) (fault : BuildFault) (line : Option ℕ) → IsOfStore fault → IsLine due fault line
putting_line due build.StoreFault line h = tt
putting_line due build.NoMemory line h = tt
putting_line due (build.Refused name refusal) line h = absurd h
putting_line due (build.LinkRefused fault) line h = absurd h

pub line_putting : (result : Result Report Unbuilt) (first : Option Told) → IfErr result (λ unbuilt. IsOfStore unbuilt.fault) → IfSome first (λ t. IsLineOfBuild t.files result)
line_putting result None h = tt
line_putting (Ok report) (Some t) h = tt
line_putting (Err unbuilt) (Some t) h = λ shown is. putting_line (refused_line (modules_of shown)) unbuilt.fault unbuilt.line h
