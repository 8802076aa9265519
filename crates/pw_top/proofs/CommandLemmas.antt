-- What each command did, by its own clauses.
use Rattle.std.proofs.Common.{◌≡◌, ℕ, Bool, ◌⊎◌, ⊎_elim, List, [], Option, Some, None, Result, Ok, Err, refl, sym, ap, ◌∙◌, subst}
use Rattle.std.specs.Prelude.{IfSome}
use Rattle.std.specs.FinMap as finite
use Rattle.pw_io.specs.Files.{Files, Told, Keeps}
use Rattle.pw_object.specs.declared.object.Object.{Object}
use Rattle.pw_db.specs.declared.database.Directives.{Directives}
use Rattle.pw_flow.specs.declared.flow.FlowModule.{FlowModule}
use Rattle.pw_store_modules.specs.FileNames.{database_name, text_name, flow_name}
use Rattle.pw_commands_phases.specs.FromPhaseOne.FirstPhase.{Phase, compiled}
use Rattle.pw_summary.specs.declared.summary.Summary.{Summary}
use Rattle.pw_image.specs.declared.image.Image.{Image}
use Rattle.pw_machine.specs.Core.{Core}
use Rattle.pw_top_answer.specs.declared.answer.Answer.{Answer}
use Rattle.pw_top_answer.specs.declared.answer.Answer.TheVariants.{Usage, Refused, RefusedSource, Cpp, LinkRefused, ReadFault, WriteFault, StoreFault, NoMemory, BadFile, Undefined, UndefinedSource}
use Rattle.pw_top_answer.specs.Effects.{Effect, NamedFile, PutsFiles, answers_alone, prints}
use Rattle.pw_top_answer.specs.Outcomes.{Answers, InputCount, IsLineDue, LeavesInput, LeavesStreams, OutputCount, PutsOut}
use Rattle.pw_go.specs.Ends.{EndsIn}
use Rattle.pw_build_opts.specs.declared.opts.Opts.{Opts}
use Rattle.pw_build_opts.specs.declared.opts.RunOpts.{RunOpts}
use Rattle.pw_law_session.specs.FromSession.FromBuild.BuildFault.{BuildFault}
use Rattle.pw_law_session.specs.FromSession.FromBuildFiles.Building.{Outcome, puts_of}
use Rattle.pw_law_session.specs.FromSession.FromBuildFiles.Seen.{SeenOutcome}
use Rattle.pw_law_session.specs.FromSession.FromBuildFiles.Outcomes.{AnswersOutcome}
use Rattle.pw_law_session.specs.FromSession.FromBuildFiles.Driving.{BuildEffect, IsBuildAnswer, built_effect}
use Rattle.pw_go.specs.Going.{GoEffect, HasBuilt, IfMade, IsGoAnswer}
use Rattle.pw_commands_where.specs.Showing.{IsWhereAnswer, WhereEffect}
use Rattle.pw_commands_interp.specs.Interpreting.{Did, InterpEffect, InterpOver, IsInterpAnswer}
use Rattle.pw_build_objects.specs.Programs.{Parts}
use Rattle.pw_commands.specs.Analysing.{AnalyseEffect, AnalyseOver, summaries_of}
use Rattle.pw_commands.specs.Linking.{LinkEffect, LinkOver, objects_of}
use Rattle.pw_commands.specs.Needed.{needed, needed_bytes}
use Rattle.pw_commands.specs.Outcome.{IsFound, IsStoreAnswer, Obeys}
use Rattle.pw_commands.specs.Running.{IsRunOrStop, core_in, run_effect, runs}
use Rattle.pw_commands.specs.Showing.{DatabaseEffect, IsShowAnswer, ListEffect, ListOver, Shows, database_text, image_in, printed}
use Rattle.pw_law_session.specs.FromSession.Bench.{BenchEffect}
use Rattle.pw_top_words.specs.declared.commands.Command.{Command}
use Rattle.pw_top_words.specs.declared.commands.Command.TheVariants.{Go, Build as BuildAll, Session, PhaseOne, Analyse, PhaseTwo, Link, Run, List as ListImage, Db, Bench, Where, Preprocess, Interp}
use Rattle.pw_store_texts.specs.Headers.{headers_of}
use Rattle.pw_store_texts.specs.Names.{source_name}
use Rattle.pw_store_texts.specs.Outputs.{Output}
use Rattle.pw_commands_cpp.specs.Command.{CppEffect, CppOver, IsCppAnswer, cpp_fault, effect_of, needed_source}
use Rattle.pw_commands_phases.specs.First.{EffectBy, EffectOfOutput, EffectOfPhase, EffectOfSource, PhaseOneEffect, PhaseOneOver}
use Rattle.pw_commands_phases.specs.Made.{IsPhaseAnswer}
use Rattle.pw_commands_phases.specs.Second.{PhaseTwoEffect, PhaseTwoOver, database_at, flow_at}
use Rattle.pw_top.specs.Answers.{IsNoUsage}
use Rattle.pw_top.specs.Does.{Does}
use Rattle.pw_top.proofs.SessionLemmas.{bench_prints}
use Rattle.pw_top.proofs.DoesLemmas.{Prints, Quiet, left_so, nothing_put, one_does, prints_does, quiet_does}

-- what the words come to, but for a session
abbrev pub Comes : Option Command → Files → List ℕ → (Effect → Type 0)
Comes None files input = λ effect. effect ≡ answers_alone Usage input
Comes (Some (Go opts)) files input = GoEffect files opts input
Comes (Some (Where k opts)) files input = WhereEffect files opts k input
Comes (Some (Interp opts)) files input = InterpEffect files opts input
Comes (Some (BuildAll opts)) files input = BuildEffect files opts input
Comes (Some (Session opts)) files input = λ effect. ⊥
Comes (Some (Bench number opts)) files input = BenchEffect number opts input
Comes (Some (Preprocess name)) files input = CppEffect files name input
Comes (Some (PhaseOne name optimise)) files input = PhaseOneEffect files name optimise input
Comes (Some (Analyse colours)) files input = AnalyseEffect files colours input
Comes (Some (PhaseTwo name)) files input = PhaseTwoEffect files name input
Comes (Some (Link stack)) files input = LinkEffect files stack input
Comes (Some (Run steps)) files input = λ effect. effect ≡ run_effect files steps input
Comes (Some ListImage) files input = ListEffect files input
Comes (Some Db) files input = DatabaseEffect files input

-- ---- the store's commands

quiet_answer : (answer : Answer) (input : List ℕ) (e : Effect) → e ≡ answers_alone answer input → Quiet input e
quiet_answer answer input e h = subst (Quiet input) (sym h) (record { output = refl; rest = refl })

analyse_quiet : (wanted : Result (List Summary) Answer) (colours : ℕ) (input : List ℕ) (e : Effect) → AnalyseOver wanted colours input e → Quiet input e
analyse_quiet (Err answer) colours input e h = quiet_answer answer input e h
analyse_quiet (Ok summaries) colours input e h =
    ⊎_elim {C = Quiet input e}
    (λ r. subst (Quiet input) (sym r.2) (record { output = refl; rest = refl }))
    (λ l. subst (Quiet input) (sym l.1.2) (record { output = refl; rest = refl }))
    h

link_quiet : (wanted : Result (List Object) Answer) (stack : ℕ) (input : List ℕ) (e : Effect) → LinkOver wanted stack input e → Quiet input e
link_quiet (Err answer) stack input e h = quiet_answer answer input e h
link_quiet (Ok objects) stack input e h =
    ⊎_elim {C = Quiet input e}
    (λ r. subst (Quiet input) (sym r.2) (record { output = refl; rest = refl }))
    (λ l. subst (Quiet input) (sym l.1.2) (record { output = refl; rest = refl }))
    h

output_quiet : (name : List ℕ) (output : _) (input : List ℕ) (e : Effect) → e ≡ effect_of name output input → Quiet input e
output_quiet name (Ok output) input e h = subst (Quiet input) (sym h) (record { output = refl; rest = refl })
output_quiet name (Err fault) input e h = subst (Quiet input) (sym h) (record { output = refl; rest = refl })

cpp_over_quiet : (headers : _) (name : List ℕ) (text : Result (List ℕ) Answer) (input : List ℕ) (e : Effect) → CppOver headers name text input e → Quiet input e
cpp_over_quiet headers name (Err answer) input e h = quiet_answer answer input e h
cpp_over_quiet headers name (Ok text) input e h = output_quiet name h.0 input e h.2

cpp_quiet : (files : Files) (name input : List ℕ) (e : Effect) → CppEffect files name input e → Quiet input e
cpp_quiet files name input e h = cpp_over_quiet (headers_of files) name (needed_source files name) input e h

phase_quiet : (name : List ℕ) (o : Bool) (phase : Phase) (input : List ℕ) (e : Effect) → EffectOfPhase name o phase input e → Quiet input e
phase_quiet name o (Err refusal) input e h = quiet_answer (Refused name refusal) input e h
phase_quiet name o (Ok flow) input e h = subst (Quiet input) (sym h.3) (record { output = refl; rest = refl })

text_quiet : (name : List ℕ) (o : Bool) (text : Result (List ℕ) Answer) (input : List ℕ) (e : Effect) → PhaseOneOver name o text input e → Quiet input e
text_quiet name o (Err answer) input e h = quiet_answer answer input e h
text_quiet name o (Ok text) input e h = phase_quiet name o (compiled name text) input e h

source_quiet : (name : List ℕ) (o : Bool) (phase : Phase) (input : List ℕ) (e : Effect) → EffectOfSource name o phase input e → Quiet input e
source_quiet name o (Err refusal) input e h = quiet_answer (RefusedSource name refusal) input e h
source_quiet name o (Ok flow) input e h = phase_quiet name o (Ok flow) input e h

phase_output_quiet : (name : List ℕ) (o : Bool) (output : Output) (input : List ℕ) (e : Effect) → EffectOfOutput name o output input e → Quiet input e
phase_output_quiet name o (Ok text) input e h = source_quiet name o (compiled name text) input e h
phase_output_quiet name o (Err fault) input e h = quiet_answer (Cpp (cpp_fault fault)) input e h

phase_one_quiet : (files : Files) (name : List ℕ) (o : Bool) (source : Option (List ℕ)) (input : List ℕ) (e : Effect) → EffectBy files name o source input e → Quiet input e
phase_one_quiet files name o None input e h = text_quiet name o (needed_bytes files (text_name name)) input e h
phase_one_quiet files name o (Some text) input e h = phase_output_quiet name o h.0 input e h.2

phase_two_quiet : (name : List ℕ) (flow : Result FlowModule Answer) (db : Result (List (List ℕ × Directives)) Answer) (input : List ℕ) (e : Effect) → PhaseTwoOver name flow db input e → Quiet input e
phase_two_quiet name (Err answer) db input e h = quiet_answer answer input e h
phase_two_quiet name (Ok flow) (Err answer) input e h = quiet_answer answer input e h
phase_two_quiet name (Ok flow) (Ok db) input e h = subst (Quiet input) (sym h.2) (record { output = refl; rest = refl })

store_does : (comes : Files → List ℕ → Effect → Type 0) (told new : Option Told) (rest taken : Option (List ℕ)) (answer : Answer) → ((files : Files) (input : List ℕ) (e : Effect) → comes files input e → Quiet input e)
    → IfSome told (λ t. (input : List ℕ) → Obeys (comes t.files input) answer t new) → IfSome told (λ t. IfSome rest (λ input. Does (comes t.files input) answer t new input rest taken taken))
store_does comes None new rest taken answer quiet h = tt
store_does comes (Some t) new None taken answer quiet h = tt
store_does comes (Some t) new (Some input) taken answer quiet h = quiet_does (comes t.files input) answer t new input taken (quiet t.files input) (h input)

pub phase_one_does : (told new : Option Told) (rest taken : Option (List ℕ)) (name : List ℕ) (o : Bool) (answer : Answer) → IfSome told (λ t. (input : List ℕ) → Obeys (PhaseOneEffect t.files name o input) answer t new)
    → IfSome told (λ t. IfSome rest (λ input. Does (PhaseOneEffect t.files name o input) answer t new input rest taken taken))
phase_one_does told new rest taken name o answer h =
    store_does (λ files input. PhaseOneEffect files name o input) told new rest taken answer (λ files input e d. phase_one_quiet files name o (finite.get files (source_name name)) input e d) h

pub cpp_does : (told new : Option Told) (rest taken : Option (List ℕ)) (name : List ℕ) (answer : Answer) → IfSome told (λ t. (input : List ℕ) → Obeys (CppEffect t.files name input) answer t new)
    → IfSome told (λ t. IfSome rest (λ input. Does (CppEffect t.files name input) answer t new input rest taken taken))
cpp_does told new rest taken name answer h =
    store_does (λ files input. CppEffect files name input) told new rest taken answer (λ files input e d. cpp_quiet files name input e d) h

pub analyse_does : (told new : Option Told) (rest taken : Option (List ℕ)) (colours : ℕ) (answer : Answer) → IfSome told (λ t. (input : List ℕ) → Obeys (AnalyseEffect t.files colours input) answer t new)
    → IfSome told (λ t. IfSome rest (λ input. Does (AnalyseEffect t.files colours input) answer t new input rest taken taken))
analyse_does told new rest taken colours answer h =
    store_does (λ files input. AnalyseEffect files colours input) told new rest taken answer (λ files input e d. analyse_quiet (summaries_of files) colours input e d) h

pub phase_two_does : (told new : Option Told) (rest taken : Option (List ℕ)) (name : List ℕ) (answer : Answer) → IfSome told (λ t. (input : List ℕ) → Obeys (PhaseTwoEffect t.files name input) answer t new)
    → IfSome told (λ t. IfSome rest (λ input. Does (PhaseTwoEffect t.files name input) answer t new input rest taken taken))
phase_two_does told new rest taken name answer h =
    store_does (λ files input. PhaseTwoEffect files name input) told new rest taken answer
    (λ files input e d. phase_two_quiet name (needed flow_at files (flow_name name)) (needed database_at files database_name) input e d) h

pub link_does : (told new : Option Told) (rest taken : Option (List ℕ)) (stack : ℕ) (answer : Answer) → IfSome told (λ t. (input : List ℕ) → Obeys (LinkEffect t.files stack input) answer t new)
    → IfSome told (λ t. IfSome rest (λ input. Does (LinkEffect t.files stack input) answer t new input rest taken taken))
link_does told new rest taken stack answer h =
    store_does (λ files input. LinkEffect files stack input) told new rest taken answer (λ files input e d. link_quiet (objects_of files) stack input e d) h

-- ---- the commands that print

list_prints : (wanted : Result Image Answer) (input : List ℕ) (e : Effect) → ListOver wanted input e → Prints input e
list_prints (Err answer) input e h = subst (Prints input) (sym h) (record { puts = refl; rest = refl })
list_prints (Ok image) input e h = subst (Prints input) (sym h.2) (record { puts = refl; rest = refl })

printed_prints : (text : Result (List ℕ) Answer) (input : List ℕ) → Prints input (printed text input)
printed_prints (Ok text) input = record { puts = refl; rest = refl }
printed_prints (Err answer) input = record { puts = refl; rest = refl }

show_does : (comes : Files → List ℕ → Effect → Type 0) (told new : Option Told) (rest taken taken' : Option (List ℕ)) (answer : Answer) → ((files : Files) (input : List ℕ) (e : Effect) → comes files input e → Prints input e)
    → Keeps told new → IfSome told (λ t. (input : List ℕ) → Shows (comes t.files input) answer taken taken') → IfSome told (λ t. IfSome rest (λ input. Does (comes t.files input) answer t new input rest taken taken'))
show_does comes None new rest taken taken' answer prints same h = tt
show_does comes (Some t) new None taken taken' answer prints same h = tt
show_does comes (Some t) new (Some input) taken taken' answer prints same h = prints_does (comes t.files input) answer t new input taken taken' (prints t.files input) same (h input)

pub list_does : (told new : Option Told) (rest taken taken' : Option (List ℕ)) (answer : Answer) → Keeps told new → IfSome told (λ t. (input : List ℕ) → Shows (ListEffect t.files input) answer taken taken')
    → IfSome told (λ t. IfSome rest (λ input. Does (ListEffect t.files input) answer t new input rest taken taken'))
list_does told new rest taken taken' answer same h = show_does (λ files input. ListEffect files input) told new rest taken taken' answer (λ files input e d. list_prints (image_in files) input e d) same h

pub db_does : (told new : Option Told) (rest taken taken' : Option (List ℕ)) (answer : Answer) → Keeps told new → IfSome told (λ t. (input : List ℕ) → Shows (DatabaseEffect t.files input) answer taken taken')
    → IfSome told (λ t. IfSome rest (λ input. Does (DatabaseEffect t.files input) answer t new input rest taken taken'))
db_does told new rest taken taken' answer same h =
    show_does (λ files input. DatabaseEffect files input) told new rest taken taken' answer (λ files input e d. subst (Prints input) (sym d) (printed_prints (database_text files) input)) same h

-- ---- the commands that run

ran_does : (one : Effect) (answer : Answer) (told : Told) (new : Option Told) (input : List ℕ) (rest taken taken' : Option (List ℕ)) → one.puts ≡ [] → new ≡ Some told → Answers one.answer answer → PutsOut one.output answer taken taken'
    → LeavesInput one.rest input answer rest → Does (λ e. e ≡ one) answer told new input rest taken taken'
ran_does one answer told new input rest taken taken' none same h out left =
    one_does one answer told new input rest taken taken' h (subst (λ (fs : List NamedFile). PutsFiles fs answer told new) (sym none) (nothing_put answer told new same)) out left

runs_puts : (found : Result Core Answer) (budget : ℕ) (input : List ℕ) → (runs found budget input).puts ≡ []
runs_puts (Err answer) budget input = refl
runs_puts (Ok core) budget input = refl

pub run_does : (told new : Option Told) (old rest taken taken' : Option (List ℕ)) (budget : ℕ) (answer : Answer) → Keeps told new
    → IfSome told (λ t. IfSome old (λ input. Answers (run_effect t.files budget input).answer answer))
    → IfSome told (λ t. IfSome old (λ input. PutsOut (run_effect t.files budget input).output answer taken taken'))
    → IfSome told (λ t. IfSome old (λ input. LeavesInput (run_effect t.files budget input).rest input answer rest))
    → IfSome told (λ t. IfSome old (λ input. Does (λ e. e ≡ run_effect t.files budget input) answer t new input rest taken taken'))
run_does None new old rest taken taken' budget answer same h out left = tt
run_does (Some t) new None rest taken taken' budget answer same h out left = tt
run_does (Some t) new (Some input) rest taken taken' budget answer same h out left =
    ran_does (run_effect t.files budget input) answer t new input rest taken taken' (runs_puts (core_in t.files) budget input) same h out left

-- ---- the commands that build

built_rest : (comes : Result Outcome BuildFault) (input : List ℕ) → (built_effect comes input).rest ≡ input
built_rest (Ok outcome) input = refl
built_rest (Err fault) input = refl

comes_rest : (files : Files) (opts : Opts) (input : List ℕ) (e : Effect) → BuildEffect files opts input e → e.rest ≡ input
comes_rest files opts input e d = ap (λ (x : Effect). x.rest) d.2 ∙ built_rest d.0 input

built_does : (comes : Effect → Type 0) (answer : Answer) (told : Told) (new : Option Told) (input : List ℕ) (taken taken' : Option (List ℕ)) → ((e : Effect) → comes e → e.rest ≡ input) → Obeys comes answer told new
    → ((e : Effect) → comes e → PutsOut e.output answer taken taken') → Does comes answer told new input (Some input) taken taken'
built_does comes answer told new input taken taken' rest h out = record {
  answers = λ e d. h.answers e d;
  puts = λ e d. h.puts e d;
  output = out;
  rest = λ e d. left_so answer e.rest input (rest e d);
  found = h.found;
}

pub build_does : (told new : Option Told) (rest taken taken' : Option (List ℕ)) (opts : Opts) (answer : Answer)
    → IfSome told (λ t. (input : List ℕ) → Obeys (BuildEffect t.files opts input) answer t new)
    → IfSome told (λ t. (input : List ℕ) (e : Effect) → BuildEffect t.files opts input e → PutsOut e.output answer taken taken')
    → IfSome told (λ t. IfSome rest (λ input. Does (BuildEffect t.files opts input) answer t new input rest taken taken'))
build_does None new rest taken taken' opts answer h out = tt
build_does (Some t) new None taken taken' opts answer h out = tt
build_does (Some t) new (Some input) taken taken' opts answer h out =
    built_does (BuildEffect t.files opts input) answer t new input taken taken' (λ e d. comes_rest t.files opts input e d) (h input) (λ e d. out input e d)

-- what `build` built, whatever the input tells
built_found : (files : Files) (opts : Opts) (answer : Answer) → IsFound (BuildEffect files opts []) answer → IfMade answer ((comes : Result Outcome BuildFault) × SeenOutcome files opts comes)
built_found files opts StoreFault h = tt
built_found files opts NoMemory h = tt
built_found files opts _ h = let c = h.1 in (c.0, c.1)

built_puts : (comes : Result Outcome BuildFault) → (built_effect comes []).puts ≡ puts_of comes
built_puts (Ok outcome) = refl
built_puts (Err fault) = refl

has_built : (opts : Opts) (answer : Answer) (told : Told) (new : Option Told) → Obeys (BuildEffect told.files opts []) answer told new
    → ((comes : Result Outcome BuildFault) → SeenOutcome told.files opts comes → AnswersOutcome comes answer) → HasBuilt opts answer told new
has_built opts answer told new h refusal = record {
  found = built_found told.files opts answer h.found;
  answers = refusal;
  puts = λ comes b. subst (λ (files : List NamedFile). PutsFiles files answer told new) (built_puts comes) (h.puts (built_effect comes []) (comes, b, refl));
}

pub build_built : (told new : Option Told) (opts : Opts) (answer : Answer)
    → IfSome told (λ t. (input : List ℕ) → Obeys (BuildEffect t.files opts input) answer t new)
    → IfSome told (λ t. (comes : Result Outcome BuildFault) → SeenOutcome t.files opts comes → AnswersOutcome comes answer)
    → IfSome told (λ t. HasBuilt opts answer t new)
build_built None new opts answer h refusal = tt
build_built (Some t) new opts answer h refusal = has_built opts answer t new (h []) refusal

pub build_no_usage : (answer : Answer) → IsBuildAnswer answer → IsNoUsage answer
build_no_usage Usage h = h
build_no_usage _ h = tt

pub build_reads : (count : ℕ) (answer : Answer) → IsBuildAnswer answer → InputCount count count answer
build_reads count ReadFault h = absurd h
build_reads count _ h = refl

pub go_does : (told new : Option Told) (old rest taken taken' : Option (List ℕ)) (opts : RunOpts) (answer : Answer)
    → IfSome told (λ t. IfSome old (λ input. Obeys (GoEffect t.files opts input) answer t new))
    → IfSome told (λ t. IfSome old (λ input. (e : Effect) → GoEffect t.files opts input e → PutsOut e.output answer taken taken'))
    → IfSome told (λ t. IfSome old (λ input. (e : Effect) → GoEffect t.files opts input e → LeavesInput e.rest input answer rest))
    → IfSome told (λ t. IfSome old (λ input. Does (GoEffect t.files opts input) answer t new input rest taken taken'))
go_does None new old rest taken taken' opts answer h out left = tt
go_does (Some t) new None rest taken taken' opts answer h out left = tt
go_does (Some t) new (Some input) rest taken taken' opts answer h out left = record { answers = λ e d. h.answers e d; puts = λ e d. h.puts e d; output = out; rest = left; found = h.found }

pub go_no_usage : (answer : Answer) → IsGoAnswer answer → IsNoUsage answer
go_no_usage Usage h = h
go_no_usage _ h = tt

pub where_does : (told new : Option Told) (old rest taken taken' : Option (List ℕ)) (opts : RunOpts) (k : ℕ) (answer : Answer)
    → IfSome told (λ t. IfSome old (λ input. Obeys (WhereEffect t.files opts k input) answer t new))
    → IfSome told (λ t. IfSome old (λ input. (e : Effect) → WhereEffect t.files opts k input e → PutsOut e.output answer taken taken'))
    → IfSome told (λ t. IfSome old (λ input. (e : Effect) → WhereEffect t.files opts k input e → LeavesInput e.rest input answer rest))
    → IfSome told (λ t. IfSome old (λ input. Does (WhereEffect t.files opts k input) answer t new input rest taken taken'))
where_does None new old rest taken taken' opts k answer h out left = tt
where_does (Some t) new None rest taken taken' opts k answer h out left = tt
where_does (Some t) new (Some input) rest taken taken' opts k answer h out left = record { answers = λ e d. h.answers e d; puts = λ e d. h.puts e d; output = out; rest = left; found = h.found }

-- a run by the meaning of C puts no file
interp_over_puts : (files : Files) (opts : RunOpts) (input : List ℕ) (comes : Result Parts BuildFault) (e : Effect) → InterpOver files opts input comes e → e.puts ≡ []
interp_over_puts files opts input (Ok parts) e h = ap (λ (x : Effect). x.puts) h.2
interp_over_puts files opts input (Err fault) e h = ap (λ (x : Effect). x.puts) h

pub interp_does : (told new : Option Told) (old rest taken taken' : Option (List ℕ)) (opts : RunOpts) (answer : Answer) → Keeps told new
    → IfSome told (λ t. IfSome old (λ input. Did t.files opts input answer rest taken taken'))
    → IfSome told (λ t. IfSome old (λ input. Does (InterpEffect t.files opts input) answer t new input rest taken taken'))
interp_does None new old rest taken taken' opts answer same h = tt
interp_does (Some t) new None rest taken taken' opts answer same h = tt
interp_does (Some t) new (Some input) rest taken taken' opts answer same h = record {
  answers = λ e d. h.answers e d;
  puts = λ e d. subst (λ (fs : List NamedFile). PutsFiles fs answer t new) (sym (ap (λ (x : Effect). x.puts) d.2 ∙ interp_over_puts d.1.0 opts input d.1.2.0 d.0 d.1.2.2)) (nothing_put answer t new same);
  output = λ e d. h.output e d;
  rest = λ e d. h.rest e d;
  found = h.found;
}

pub interp_no_usage : (answer : Answer) → IsInterpAnswer answer → IsNoUsage answer
interp_no_usage Usage h = h
interp_no_usage _ h = tt

pub where_no_usage : (answer : Answer) → IsWhereAnswer answer → IsNoUsage answer
where_no_usage Usage h = h
where_no_usage _ h = tt

-- ---- what each command leaves of the input is a rest of it

-- the laws of the commands that read it
pub record Ends : Type 0 where
  pub run : (files : Files) (budget : ℕ) (input : List ℕ) → EndsIn input (run_effect files budget input).rest
  pub go : (files : Files) (opts : RunOpts) (input : List ℕ) (e : Effect) → GoEffect files opts input e → EndsIn input e.rest
  pub looks : (files : Files) (opts : RunOpts) (k : ℕ) (input : List ℕ) (e : Effect) → WhereEffect files opts k input e → EndsIn input e.rest
  pub interprets : (files : Files) (opts : RunOpts) (input : List ℕ) (e : Effect) → InterpEffect files opts input e → EndsIn input e.rest

ends_itself : (input : List ℕ) → EndsIn input input
ends_itself input = ([], refl)

left_all : (input : List ℕ) (e : Effect) → e.rest ≡ input → EndsIn input e.rest
left_all input e h = subst (EndsIn input) (sym h) (ends_itself input)

pub comes_ends : Ends → (command : Option Command) (files : Files) (input : List ℕ) (e : Effect) → Comes command files input e → EndsIn input e.rest
comes_ends ends None files input e h = left_all input e (ap (λ (x : Effect). x.rest) h)
comes_ends ends (Some (Go opts)) files input e h = ends.go files opts input e h
comes_ends ends (Some (Where k opts)) files input e h = ends.looks files opts k input e h
comes_ends ends (Some (Interp opts)) files input e h = ends.interprets files opts input e h
comes_ends ends (Some (BuildAll opts)) files input e h = left_all input e (comes_rest files opts input e h)
comes_ends ends (Some (Session opts)) files input e h = absurd h
comes_ends ends (Some (Bench number opts)) files input e h = left_all input e (bench_prints number opts input e h).rest
comes_ends ends (Some (Preprocess name)) files input e h = left_all input e (cpp_quiet files name input e h).rest
comes_ends ends (Some (PhaseOne name optimise)) files input e h = left_all input e (phase_one_quiet files name optimise (finite.get files (source_name name)) input e h).rest
comes_ends ends (Some (Analyse colours)) files input e h = left_all input e (analyse_quiet (summaries_of files) colours input e h).rest
comes_ends ends (Some (PhaseTwo name)) files input e h = left_all input e (phase_two_quiet name (needed flow_at files (flow_name name)) (needed database_at files database_name) input e h).rest
comes_ends ends (Some (Link stack)) files input e h = left_all input e (link_quiet (objects_of files) stack input e h).rest
comes_ends ends (Some (Run steps)) files input e h = subst (λ (x : Effect). EndsIn input x.rest) (sym h) (ends.run files steps input)
comes_ends ends (Some ListImage) files input e h = left_all input e (list_prints (image_in files) input e h).rest
comes_ends ends (Some Db) files input e h = left_all input e (subst (Prints input) (sym h) (printed_prints (database_text files) input)).rest

-- ---- the words

none_and_some : {X : Type 0} (o : Option X) (x : X) → o ≡ None → o ≡ Some x → ⊥
none_and_some o x n s = cc

-- ---- streams, counts, lines

pub left_alone : (answer : Answer) (input taken : Option (List ℕ)) → LeavesStreams answer input input taken taken
left_alone Usage input taken = (refl, refl)
left_alone (Refused name refusal) input taken = (refl, refl)
left_alone (RefusedSource name refusal) input taken = (refl, refl)
left_alone (Cpp fault) input taken = (refl, refl)
left_alone (LinkRefused fault) input taken = (refl, refl)
left_alone (BadFile name at) input taken = (refl, refl)
left_alone StoreFault input taken = (refl, refl)
left_alone _ input taken = tt

pub store_reads : (count : ℕ) (answer : Answer) → IsStoreAnswer answer → InputCount count count answer
store_reads count ReadFault h = absurd h
store_reads count _ h = refl

pub store_writes : (count : ℕ) (answer : Answer) → IsStoreAnswer answer → OutputCount count count answer
store_writes count WriteFault h = absurd h
store_writes count _ h = refl

pub show_reads : (count : ℕ) (answer : Answer) → IsShowAnswer answer → InputCount count count answer
show_reads count ReadFault h = absurd h
show_reads count _ h = refl

pub cpp_reads : (count : ℕ) (answer : Answer) → IsCppAnswer answer → InputCount count count answer
cpp_reads count ReadFault h = absurd h
cpp_reads count _ h = refl

pub cpp_writes : (count : ℕ) (answer : Answer) → IsCppAnswer answer → OutputCount count count answer
cpp_writes count WriteFault h = absurd h
cpp_writes count _ h = refl

pub cpp_no_usage : (answer : Answer) → IsCppAnswer answer → IsNoUsage answer
cpp_no_usage Usage h = h
cpp_no_usage _ h = tt

pub phase_reads : (count : ℕ) (answer : Answer) → IsPhaseAnswer answer → InputCount count count answer
phase_reads count ReadFault h = absurd h
phase_reads count _ h = refl

pub phase_writes : (count : ℕ) (answer : Answer) → IsPhaseAnswer answer → OutputCount count count answer
phase_writes count WriteFault h = absurd h
phase_writes count _ h = refl

pub store_no_usage : (answer : Answer) → IsStoreAnswer answer → IsNoUsage answer
store_no_usage Usage h = h
store_no_usage _ h = tt

pub phase_no_usage : (answer : Answer) → IsPhaseAnswer answer → IsNoUsage answer
phase_no_usage Usage h = h
phase_no_usage _ h = tt

pub show_no_usage : (answer : Answer) → IsShowAnswer answer → IsNoUsage answer
show_no_usage Usage h = h
show_no_usage _ h = tt

pub run_no_usage : (answer : Answer) → IsRunOrStop answer → IsNoUsage answer
run_no_usage Usage h = h
run_no_usage _ h = tt

-- no command is answered as words that say none
pub usage_apart : (command : Command) (answer : Answer) → IsNoUsage answer → answer ≡ Usage → Some command ≡ None
usage_apart command answer h e = absurd (subst IsNoUsage e h)

pub no_command : (command : Command) (answer : Answer) → Some command ≡ None → (answer ≡ Usage) ⊎ (answer ≡ NoMemory)
no_command command answer e = absurd (none_and_some (Some command) command e refl)

first_line : (answer : Answer) → IsLineDue None answer None
first_line (Refused name refusal) = refl
first_line (RefusedSource name refusal) = refl
first_line (Undefined operation home token) = refl
first_line (UndefinedSource operation home token) = refl
first_line _ = tt

-- an answer of a command that refuses no module
pub plain_line : (told : Option Told) (answer : Answer) → IfSome told (λ t. IsLineDue None answer None)
plain_line None answer = tt
plain_line (Some t) answer = first_line answer

-- ---- words that say no command

pub kept_alone : (told : Option Told) → Keeps told told
kept_alone None = tt
kept_alone (Some t) = refl

pub none_due : (told : Option Told) → IfSome told (λ t. Unit {0})
none_due None = tt
none_due (Some t) = tt
