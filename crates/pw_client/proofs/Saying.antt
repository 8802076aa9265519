-- What the main theorem says of `hello`.
use Rattle.std.specs.Prelude.{◌≡◌, ◌↔◌, ℕ, suc, ◌+◌, ◌≤◌, List, [], ◌∷◌, ◌++◌, Option, None, Some, IfSome, Result, Ok, Err, IsOk}
use Rattle.std.proofs.Common.{⊎_elim, arith, ap, refl, subst, sym, ◌∙◌}
use Rattle.std.proofs.lemmas.List.{append-nil, append_assoc}
use Rattle.pw_value.specs.Limits.{stack_least}
use Rattle.pw_value.specs.ProgramNames.{main_name, putchar_name, start_name}
use Rattle.pw_value.specs.declared.fault.LinkFault.{LinkFault}
use Rattle.pw_io.specs.Files.{Files, Told}
use Rattle.pw_io.specs.Streams.{Appends}
use Rattle.pw_image.specs.declared.image.Image.{Image}
use Rattle.pw_image.specs.Image.{Contents, IsImageFile}
use Rattle.pw_machine.specs.declared.ends.End.TheVariants as end
use Rattle.pw_machine.specs.Run.{Progress, Running, Stopped, run_of, start_state}
use Rattle.pw_machine.specs.Start.{image_start}
use Rattle.pw_front_end.specs.Fronts.{HasTree}
use Rattle.pw_front_end.specs.declared.refusal.Refusal.{Refusal}
use Rattle.pw_check_rules.specs.Checks.{Checks}
use Rattle.pw_cmean.specs.Worlds.{Program}
use Rattle.pw_cmean.specs.SourceRun.{source_run}
use Rattle.pw_store_modules.specs.Modules.{Texts, module_map}
use Rattle.pw_build_opts.specs.declared.opts.Opts.{Opts}
use Rattle.pw_build_opts.specs.declared.opts.RunOpts.{RunOpts}
use Rattle.pw_build.specs.Builds.{BuildsBy, before_others, flows_of, limit_passed, within}
use Rattle.pw_build.specs.FromPhaseOne.FirstPhase.{Compiles, CompilesTo, Phase, compiled}
use Rattle.pw_top.specs.FromLawSession.FromSession.FromBuild.BuildFault.{BuildFault}
use Rattle.pw_top.specs.FromLawSession.FromSession.FromBuild.BuildFault.TheVariants as build
use Rattle.pw_top.specs.FromLawSession.FromSession.FromBuildFiles.Full.{BuildsImage}
use Rattle.pw_top.specs.FromLawSession.FromSession.FromBuildFiles.Outcomes.{fault_answer}
use Rattle.pw_top.specs.FromLawSession.FromSession.FromBuildFiles.Genuine.{KeepsGenuine}
use Rattle.pw_run_agreement.specs.Agreement.{SourceEnd, SourceRun, Ends, Stack, Bound, Undefined, IsMeaningful}
use Rattle.pw_run_languages.specs.Programs.{AreBytes}
use Rattle.pw_run_languages.specs.LinkingLaws.{frame_in}
use Rattle.pw_law_stops.specs.Stops.{Tells}
use Rattle.pw_law_source.specs.Source as source
use Rattle.pw_top.specs.FromLawSession.FromMeaning.FromLawWhole.FromLayers.Whole.{FramesFit}
use Rattle.pw_top.specs.FromLawSession.FromMeaning.FromLawWhole.Programs.{AreModulesOf, IsProgramOf, flow_of}
use Rattle.pw_top.specs.FromLawSession.FromMeaning.Meaning.{BuildsAndMeans, Means, runs_of}
use Rattle.pw_commands.specs.MachineRun.{run_answer, run_output}
use Rattle.pw_top_answer.specs.declared.answer.Answer.{Answer}
use Rattle.pw_top_answer.specs.declared.answer.Answer.TheVariants.{Done, Ended, Usage, Refused, RefusedSource, Cpp, LinkRefused, StackStop, Spent, Halted, ReadFault, WriteFault, StoreFault, NoMemory, BadFile, BadScript, NoFrames, Undefined, UndefinedSource}
use Rattle.pw_top_answer.specs.Outcomes.{Answers, LeavesStreams, PutsOut}
use Rattle.pw_top_words.specs.CommandLine.{command_of}
use Rattle.pw_top_words.specs.declared.commands.Command.{Command}
use Rattle.pw_top_words.specs.declared.commands.Command.TheVariants.{Go}
use Rattle.pw_top_words.specs.Limits.{IsWithin}
use Rattle.pw_top.specs.Commands.{IsNoSession}
use Rattle.pw_top.specs.Telling.{AnswersAs}
use Rattle.pw_commands_cpp.specs.Telling.{TellsOrFails}
use Rattle.pw_top.specs.Whole.{ComesInFull, IfMade, RunsFull}
use Rattle.pw_hello.specs.Hello.{hello, hello_main, hello_module, hello_name, hello_output, hello_run, hello_syntax, hello_text, hello_tree}
use Rattle.pw_client.specs.Saying.{HoldsHello, IsHello, PutsPrefix, SaysHi}

-- ---- the program of the texts

pub texts_are_hello : HasTree hello_text hello_syntax → Checks hello_syntax (Ok hello_tree) → (files : Files) → IsHello files → IsProgramOf (module_map files) hello
texts_are_hello tree checks files holds =
    subst (λ entries. AreModulesOf entries (hello_module ∷ [])) (sym holds) (record { name = refl; tree = hello_syntax; has_tree = tree; checks = checks }, tt)

-- a module has one answer of the first phase, which is that of the function
abbrev pub Compiling : Type 0
Compiling = (name text : List ℕ) (answer : Phase) → Compiles name text answer ↔ (answer ≡ compiled name text)

-- the answer refuses a module
abbrev RefusesModule : {T : Type 0} → Result T BuildFault → Type 0
RefusesModule (Ok x) = ⊥
RefusesModule (Err (build.Refused who refusal)) = Unit {0}
RefusesModule (Err fault) = ⊥

-- a full build of one module that the first phase accepts refuses no module
no_refusal : (limit : Option LinkFault) (name : List ℕ) (phase : Phase) → IsOk phase → (opts : Opts) (who : List ℕ) (refusal : Refusal)
    → BuildsBy (within limit (before_others name phase (Ok []))) [] opts (Err (build.Refused who refusal)) → ⊥
no_refusal (Some fault) name phase accepted opts who refusal built = subst RefusesModule built tt
no_refusal None name (Err other) accepted opts who refusal built = cc
no_refusal None name (Ok flow) accepted opts who refusal built = built

-- the first phase accepts it
accepted_alone : Compiling → HasTree hello_text hello_syntax → Checks hello_syntax (Ok hello_tree) → IsOk (compiled hello_name hello_text)
accepted_alone exact tree checks =
    let comes : CompilesTo hello_name hello_text (flow_of hello_module) = record { tree = hello_syntax; typed = hello_tree; has_tree = tree; checks = checks; is = refl } in
    subst (λ (phase : Phase). IsOk phase) ((exact hello_name hello_text (Ok (flow_of hello_module))).0 comes) refl

abbrev NotRefused : Texts → Opts → Type 0
NotRefused texts opts = (who : List ℕ) (refusal : Refusal) → BuildsImage texts opts (Err (build.Refused who refusal)) → ⊥

pub not_refused : Compiling → HasTree hello_text hello_syntax → Checks hello_syntax (Ok hello_tree) → (files : Files) → IsHello files → (opts : Opts) → NotRefused (module_map files) opts
not_refused exact tree checks files holds opts who refusal built =
    no_refusal (limit_passed ((hello_name, hello_text) ∷ [])) hello_name (compiled hello_name hello_text) (accepted_alone exact tree checks) opts who refusal
    (subst (λ sources. BuildsBy (within (limit_passed sources) (flows_of sources)) [] opts (Err (build.Refused who refusal))) holds built)

-- texts have one program
abbrev pub OneProgram : Type 0
OneProgram = (texts : Texts) (p q : Program) → IsProgramOf texts p → IsProgramOf texts q → p ≡ q

-- ---- its runs in an image

abbrev pub Runs : Type 0
Runs = (frame_of : List ℕ → ℕ) (stack : ℕ) (input : List ℕ) (bound : ℕ) → frame_of main_name + frame_of start_name ≤ stack → frame_of putchar_name ≡ 0 → source_run hello frame_of stack input (suc bound) ≡ hello_run

abbrev hello_source : SourceRun
hello_source = source.told hello_run

enough : (v : Image) (stack : ℕ) → FramesFit hello v → stack_least ≤ stack → frame_in v main_name + frame_in v start_name ≤ stack
enough v stack fit least =
    let main : frame_in v main_name ≤ 400 = fit.functions hello_module hello_main (0, omega arith, refl) (0, omega arith, refl) in
    let start : frame_in v start_name ≤ 256 = fit.start hello_module (0, omega arith, refl) (0, omega arith, refl) in
    omega (arith, main, start, least)

runs_in : Runs → (v : Image) (stack : ℕ) (input : List ℕ) (bound : ℕ) → FramesFit hello v → stack_least ≤ stack → runs_of hello v stack input (suc bound) ≡ hello_source
runs_in runs v stack input bound fit least =
    ap source.told (runs (frame_in v) stack input bound (enough v stack fit least) (fit.library putchar_name (2, omega arith, refl)))

-- what a run of the image within a budget tells
tells_hello : Runs → OneProgram → (texts : Texts) (opts : Opts) (bytes : List ℕ) (means : Means texts opts bytes) → IsProgramOf texts hello → stack_least ≤ opts.stack
    → (input : List ℕ) → AreBytes input → (budget : ℕ) → Tells input (run_of budget (start_state (image_start means.contents.value.memory) input)) hello_source
tells_hello runs one texts opts bytes means of least input are budget =
    let v = means.contents.value in
    let same : means.program ≡ hello = one texts means.program hello means.of_texts of in
    let fit : FramesFit hello v = subst (λ p. FramesFit p v) same means.fit in
    let run : runs_of means.program v opts.stack input (suc budget) ≡ hello_source =
    ap (λ p. runs_of p v opts.stack input (suc budget)) same ∙ runs_in runs v opts.stack input budget fit least in
    subst (λ r. Tells input (run_of budget (start_state (image_start v.memory) input)) r) run
    (means.tells input are budget (suc budget) (omega arith) (subst (λ (r : SourceRun). IsMeaningful r.end) (sym run) tt))

-- ---- what is answered

abbrev status_in : SourceEnd → ℕ
status_in (Ends status) = status
status_in Stack = 0
status_in Bound = 0
status_in Undefined = 0

abbrev IsEnd : SourceEnd → Type 0
IsEnd (Ends status) = Unit {0}
IsEnd Stack = ⊥
IsEnd Bound = ⊥
IsEnd Undefined = ⊥

-- what was put out is all of it
all_put : (wanted output more : List ℕ) → wanted ≡ output ++ more → more ≡ [] → wanted ≡ output
all_put wanted output more front none = front ∙ ap (λ m. output ++ m) none ∙ append-nil output

says_run : (input : List ℕ) (progress : Progress) (taken taken' : Option (List ℕ)) → Tells input progress hello_source
    → PutsOut (run_output progress) (run_answer progress) taken taken' → SaysHi (run_answer progress) taken taken'
says_run input (Running last) taken taken' tells puts =
    (last.output, tells.more, tells.output, subst (λ l. Appends taken taken' l) (sym (all_put last.output puts.output puts.more puts.front puts.whole)) puts.taken)
says_run input (Stopped (end.Ended status) last) taken taken' tells puts =
    (sym (ap status_in tells.end), subst (λ l. Appends taken taken' l) (sym (tells.output ∙ all_put last.output puts.output puts.more puts.front puts.whole)) puts.taken)
says_run input (Stopped end.StackStop last) taken taken' tells puts = absurd (subst IsEnd tells.end tt)
says_run input (Stopped (end.Halted halt at) last) taken taken' tells puts = absurd tells

-- ---- a prefix of it

-- of a prefix
part_put : (wanted rest : List ℕ) (answer : Answer) (taken taken' : Option (List ℕ)) → hello_output ≡ wanted ++ rest → PutsOut wanted answer taken taken' → PutsPrefix taken taken'
part_put wanted rest answer taken taken' e puts =
    (puts.output, puts.more ++ rest, e ∙ (ap (λ l. l ++ rest) puts.front ∙ append_assoc puts.output puts.more rest), puts.taken)

part_run : (input : List ℕ) (progress : Progress) (answer : Answer) (taken taken' : Option (List ℕ)) → Tells input progress hello_source
    → PutsOut (run_output progress) answer taken taken' → PutsPrefix taken taken'
part_run input (Running last) answer taken taken' tells puts = part_put last.output tells.more answer taken taken' tells.output puts
part_run input (Stopped (end.Ended status) last) answer taken taken' tells puts =
    part_put last.output [] answer taken taken' (tells.output ∙ sym (append-nil last.output)) puts
part_run input (Stopped end.StackStop last) answer taken taken' tells puts = absurd (subst IsEnd tells.end tt)
part_run input (Stopped (end.Halted halt at) last) answer taken taken' tells puts = absurd tells

-- nothing was put out
nothing_put : (taken taken' : Option (List ℕ)) → taken' ≡ taken → Appends taken taken' []
nothing_put taken None e = tt
nothing_put None (Some after) e = absurd cc
nothing_put (Some before) (Some after) e = let same : after ≡ before = cc in same ∙ sym (append-nil before)

-- ---- what is answered in its place

says_fault : (texts : Texts) (opts : Opts) → NotRefused texts opts → (fault : BuildFault) → BuildsImage texts opts (Err fault)
    → (taken taken' : Option (List ℕ)) → PutsPrefix taken taken' → SaysHi (fault_answer fault) taken taken'
says_fault texts opts accepted (build.Refused name refusal) built taken taken' part = accepted name refusal built
says_fault texts opts accepted (build.LinkRefused fault) built taken taken' part = part
says_fault texts opts accepted build.StoreFault built taken taken' part = part
says_fault texts opts accepted build.NoMemory built taken taken' part = tt

-- what is answered is what is wanted, or a fault
by_answer : (wanted answer : Answer) (taken taken' : Option (List ℕ)) → Answers wanted answer → PutsPrefix taken taken' → (wanted ≡ answer → SaysHi answer taken taken') → SaysHi answer taken taken'
by_answer wanted Done taken taken' e part says = says e
by_answer wanted (Ended status) taken taken' e part says = says e
by_answer wanted Usage taken taken' e part says = says e
by_answer wanted (Refused name refusal) taken taken' e part says = says e
by_answer wanted (RefusedSource name refusal) taken taken' e part says = says e
by_answer wanted (Cpp fault) taken taken' e part says = says e
by_answer wanted (LinkRefused fault) taken taken' e part says = part
by_answer wanted StackStop taken taken' e part says = says e
by_answer wanted Spent taken taken' e part says = part
by_answer wanted (Halted halt at) taken taken' e part says = says e
by_answer wanted ReadFault taken taken' e part says = part
by_answer wanted WriteFault taken taken' e part says = part
by_answer wanted StoreFault taken taken' e part says = part
by_answer wanted NoMemory taken taken' e part says = tt
by_answer wanted (BadFile name at) taken taken' e part says = says e
by_answer wanted (BadScript at) taken taken' e part says = says e
by_answer wanted (NoFrames address) taken taken' e part says = says e
by_answer wanted (Undefined operation home token) taken taken' e part says = says e
by_answer wanted (UndefinedSource operation home token) taken taken' e part says = says e

if_made : (answer : Answer) (P : Type 0) (taken taken' : Option (List ℕ)) → (answer ≡ StoreFault → taken' ≡ taken) → IfMade answer P → (P → SaysHi answer taken taken') → SaysHi answer taken taken'
if_made Done P taken taken' left h says = says h
if_made (Ended status) P taken taken' left h says = says h
if_made Usage P taken taken' left h says = says h
if_made (Refused name refusal) P taken taken' left h says = says h
if_made (RefusedSource name refusal) P taken taken' left h says = says h
if_made (Cpp fault) P taken taken' left h says = says h
if_made (LinkRefused fault) P taken taken' left h says = says h
if_made StackStop P taken taken' left h says = says h
if_made Spent P taken taken' left h says = says h
if_made (Halted halt at) P taken taken' left h says = says h
if_made ReadFault P taken taken' left h says = says h
if_made WriteFault P taken taken' left h says = says h
if_made StoreFault P taken taken' left h says = ([], hello_output, refl, nothing_put taken taken' (left refl))
if_made NoMemory P taken taken' left h says = tt
if_made (BadFile name at) P taken taken' left h says = says h
if_made (BadScript at) P taken taken' left h says = says h
if_made (NoFrames address) P taken taken' left h says = says h
if_made (Undefined operation home token) P taken taken' left h says = says h
if_made (UndefinedSource operation home token) P taken taken' left h says = says h

-- ---- the call

abbrev pub OneImage : Type 0
OneImage = (bytes : List ℕ) (c d : Contents Image) → IsImageFile bytes c → IsImageFile bytes d → c ≡ d

says_image : Runs → OneProgram → OneImage → (texts : Texts) (opts : RunOpts) (bytes : List ℕ) → Means texts opts.build bytes → IsProgramOf texts hello → stack_least ≤ opts.build.stack
    → (input : List ℕ) → AreBytes input → (answer : Answer) (input' taken taken' : Option (List ℕ)) → RunsFull opts.budget input (Ok bytes) answer input' taken taken' → SaysHi answer taken taken'
says_image runs one images texts opts bytes means of least input are answer input' taken taken' ran =
    let progress = run_of opts.budget (start_state (image_start ran.0.value.memory) input) in
    let tells : Tells input progress hello_source =
    subst (λ (c : Contents Image). Tells input (run_of opts.budget (start_state (image_start c.value.memory) input)) hello_source) (images bytes means.contents ran.0 means.file ran.1)
    (tells_hello runs one texts opts.build bytes means of least input are opts.budget) in
    by_answer (run_answer progress) answer taken taken' ran.2 (part_run input progress answer taken taken' tells ran.3) (λ e.
    subst (λ a. SaysHi a taken taken') e (says_run input progress taken taken' tells (subst (λ a. PutsOut (run_output progress) a taken taken') (sym e) ran.3)))

says_full : Runs → OneProgram → OneImage → (texts : Texts) (opts : RunOpts) → NotRefused texts opts.build → (full : Result (List ℕ) BuildFault) → BuildsAndMeans texts opts.build full → IsProgramOf texts hello → stack_least ≤ opts.build.stack
    → (input : List ℕ) → AreBytes input → (answer : Answer) (input' taken taken' : Option (List ℕ)) → RunsFull opts.budget input full answer input' taken taken' → SaysHi answer taken taken'
says_full runs one images texts opts accepted (Ok bytes) built of least input are answer input' taken taken' ran =
    says_image runs one images texts opts bytes built.1 of least input are answer input' taken taken' ran
says_full runs one images texts opts accepted (Err fault) built of least input are answer input' taken taken' ran =
    let part = part_put [] hello_output answer taken taken' refl ran.1 in
    by_answer (fault_answer fault) answer taken taken' ran.0 part (λ e. subst (λ a. SaysHi a taken taken') e (says_fault texts opts.build accepted fault built.0 taken taken' part))

pub says_built : Runs → OneProgram → OneImage → Compiling → HasTree hello_text hello_syntax → Checks hello_syntax (Ok hello_tree) → (told : Told) (new : Option Told) (opts : RunOpts) → HoldsHello told.files → stack_least ≤ opts.build.stack
    → (input : List ℕ) → AreBytes input → (answer : Answer) (input' taken taken' : Option (List ℕ)) → (answer ≡ StoreFault → taken' ≡ taken)
    → IfMade answer (ComesInFull opts.build told new (λ full. RunsFull opts.budget input full answer input' taken taken')) → SaysHi answer taken taken'
says_built runs one images exact tree checks told new opts holds least input are answer input' taken taken' left made =
    if_made answer (ComesInFull opts.build told new (λ full. RunsFull opts.budget input full answer input' taken taken')) taken taken' left made (λ comes.
    let is : IsHello comes.0 = holds comes.0 comes.1 in
    says_full runs one images (module_map comes.0) opts (not_refused exact tree checks comes.0 is opts.build) comes.2 comes.3 (texts_are_hello tree checks comes.0 is) least input are answer input' taken taken' comes.4)

-- the answer of the call, by the command's
pub stays : (answer : Answer) (input input' taken taken' : Option (List ℕ)) → LeavesStreams answer input input' taken taken' → answer ≡ StoreFault → taken' ≡ taken
stays answer input input' taken taken' left e = (subst (λ a. LeavesStreams a input input' taken taken') e left).1

no_fault : (name : List ℕ) (refusal : Refusal) → Refused name refusal ≡ StoreFault → ⊥
no_fault name refusal e = cc

says_as : (files : Files) (own answer : Answer) (input input' taken taken' : Option (List ℕ)) → LeavesStreams answer input input' taken taken' → TellsOrFails files own answer → ((own ≡ StoreFault → taken' ≡ taken) → SaysHi own taken taken') → SaysHi answer taken taken'
says_as files (Refused name refusal) answer input input' taken taken' left told says = absurd (says (λ e. absurd (no_fault name refusal e)))
says_as files own answer input input' taken taken' left told says = subst (λ a. SaysHi a taken taken') (sym told) (says (λ e. stays answer input input' taken taken' left (told ∙ e)))

pub no_memory_says : (answer : Answer) (taken taken' : Option (List ℕ)) → answer ≡ NoMemory → SaysHi answer taken taken'
no_memory_says answer taken taken' e = subst (λ a. SaysHi a taken taken') (sym e) tt

-- of a store and an input that tell what they hold
says_told : Runs → OneProgram → OneImage → Compiling → HasTree hello_text hello_syntax → Checks hello_syntax (Ok hello_tree)
    → (command : Option Command) (opts : RunOpts) → command ≡ Some (Go opts) → stack_least ≤ opts.build.stack
    → (old new : Option Told) (input input' taken taken' : Option (List ℕ)) (answer : Answer)
    → (IsNoSession command → LeavesStreams answer input input' taken taken')
    → IfSome old (λ told. IfSome input (λ rest. AnswersAs command answer told new rest input' taken taken'))
    → IfSome old (λ told. HoldsHello told.files → KeepsGenuine told.files → IfSome input (λ rest. AreBytes rest → SaysHi answer taken taken'))
says_told runs one images exact tree checks command opts e least None new input input' taken taken' answer left does = tt
says_told runs one images exact tree checks command opts e least (Some told) new None input' taken taken' answer left does = λ holds genuine. tt
says_told runs one images exact tree checks command opts e least (Some told) new (Some rest) input' taken taken' answer left does = λ holds genuine are.
    let d : AnswersAs (Some (Go opts)) answer told new rest input' taken taken' = subst (λ (c : Option Command). AnswersAs c answer told new rest input' taken taken') e does in
    let streams : LeavesStreams answer (Some rest) input' taken taken' = left (subst (λ (c : Option Command). IsNoSession c) (sym e) tt) in
    ⊎_elim {C = SaysHi answer taken taken'} (λ t. says_as told.files d.answer answer (Some rest) input' taken taken' streams t (λ quiet.
    says_built runs one images exact tree checks told new opts holds least rest are d.answer input' taken taken' quiet (d.whole genuine))) (λ n. no_memory_says answer taken taken' n) d.answered

pub says_hi : Runs → OneProgram → OneImage → Compiling → HasTree hello_text hello_syntax → Checks hello_syntax (Ok hello_tree)
    → ((words : List (List ℕ)) (command : Command) → command_of words ≡ Some command → IsWithin command)
    → (words : List (List ℕ)) (old new : Option Told) (input input' taken taken' : Option (List ℕ)) (answer : Answer)
    → (IsNoSession (command_of words) → LeavesStreams answer input input' taken taken')
    → IfSome old (λ told. IfSome input (λ rest. AnswersAs (command_of words) answer told new rest input' taken taken'))
    → (opts : RunOpts) → command_of words ≡ Some (Go opts)
    → IfSome old (λ told. HoldsHello told.files → KeepsGenuine told.files → IfSome input (λ rest. AreBytes rest → SaysHi answer taken taken'))
says_hi runs one images exact tree checks lawful words old new input input' taken taken' answer left does opts e =
    says_told runs one images exact tree checks (command_of words) opts e (lawful words (Go opts) e).least old new input input' taken taken' answer left does
