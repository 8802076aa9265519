-- What the main theorem says of `hello` where it is built by one call and run by another.
use Rattle.std.specs.Prelude.{◌≡◌, ◌⊎◌, ℕ, Bool, true, false, List, Option, None, Some, IfSome, Result, Ok, Err}
use Rattle.std.proofs.Common.{⊎_elim, ap, refl, subst, sym, ◌∙◌}
use Rattle.pw_io.specs.Files.{Files, Keeps, Told}
use Rattle.pw_front_end.specs.Fronts.{HasTree}
use Rattle.pw_front_end.specs.declared.refusal.Refusal.{Refusal}
use Rattle.pw_check_rules.specs.Checks.{Checks}
use Rattle.pw_build_opts.specs.declared.opts.Opts.{Opts}
use Rattle.pw_build_opts.specs.declared.opts.RunOpts.{RunOpts}
use Rattle.pw_run_languages.specs.Programs.{AreBytes}
use Rattle.pw_top_answer.specs.declared.answer.Answer.{Answer}
use Rattle.pw_top_answer.specs.declared.answer.Answer.TheVariants.{Done, Refused, NoMemory}
use Rattle.pw_top_answer.specs.Effects.{Effect, after_puts}
use Rattle.pw_top_answer.specs.Outcomes.{LeavesStreams}
use Rattle.pw_top.specs.FromLawSession.FromSession.FromBuild.BuildFault.{BuildFault}
use Rattle.pw_top.specs.FromLawSession.FromSession.FromBuild.BuildFault.TheVariants as build
use Rattle.pw_top.specs.FromLawSession.FromSession.FromBuildFiles.Building.{Outcome}
use Rattle.pw_top.specs.FromLawSession.FromSession.FromBuildFiles.Driving.{built_effect}
use Rattle.pw_top.specs.FromLawSession.FromSession.FromBuildFiles.Genuine.{KeepsGenuine}
use Rattle.pw_top.specs.FromLawSession.FromSession.FromBuildFiles.Outcomes.{fault_answer}
use Rattle.pw_top.specs.FromLawSession.FromSession.FromBuildFiles.Seen.{SeenOutcome}
use Rattle.pw_top_words.specs.CommandLine.{command_of}
use Rattle.pw_top_words.specs.declared.commands.Command.{Command}
use Rattle.pw_top_words.specs.declared.commands.Command.TheVariants.{Build, Run}
use Rattle.pw_top_words.specs.Limits.{IsWithin}
use Rattle.pw_top.specs.Behind.{DoesAsGo, HoldsShortImage, RunsBehindBuild}
use Rattle.pw_top.specs.Commands.{BuildsFirst, IsNoSession, OnlyReads}
use Rattle.pw_top.specs.Does.{DoesAs}
use Rattle.pw_top.specs.Telling.{AnswersAs, BuildsAs}
use Rattle.pw_commands_cpp.specs.Telling.{TellsBy, TellsOrFails, TellsWhere, source_at, told_of}
use Rattle.pw_store_texts.specs.Bytes.{is_crowded}
use Rattle.pw_store_texts.specs.Headers.{headers_of}
use Rattle.pw_store_texts.specs.Outputs.{Output}
use Rattle.pw_hello.specs.Hello.{hello_syntax, hello_text, hello_tree}
use Rattle.pw_client.specs.Saying.{HoldsHello, SaysHi}
use Rattle.pw_client.proofs.Saying.{Compiling, OneImage, OneProgram, Runs, no_memory_says, says_built, stays}

-- a run behind a build does what `go` does
abbrev RunsAsGo : Type 0
RunsAsGo = (opts : RunOpts) (answer : Answer) (told : Told) (new : Option Told) (input : List ℕ) (input' taken taken' : Option (List ℕ)) → RunsBehindBuild opts answer told new input input' taken taken' → DoesAsGo opts answer told new input input' taken taken'

-- ---- what a build leaves that is done

abbrev IsDone : Answer → Type 0
IsDone Done = Unit {0}
IsDone _ = ⊥

not_done : (fault : BuildFault) → fault_answer fault ≡ Done → ⊥
not_done (build.Refused name refusal) e = subst IsDone (sym e) tt
not_done (build.LinkRefused fault) e = subst IsDone (sym e) tt
not_done build.StoreFault e = subst IsDone (sym e) tt
not_done build.NoMemory e = subst IsDone (sym e) tt

-- of a call that is done the command is done
no_output : (name : List ℕ) (refusal : Refusal) (output : Output) → Done ≡ told_of name refusal output → ⊥
no_output name refusal (Ok text) e = subst IsDone e tt
no_output name refusal (Err fault) e = subst IsDone e tt

no_refusal : (files : Files) (name : List ℕ) (refusal : Refusal) (source : Option (List ℕ)) → TellsBy (headers_of files) name refusal source Done → ⊥
no_refusal files name refusal None h = subst IsDone h tt
no_refusal files name refusal (Some text) h = no_output name refusal h.0 h.2

no_told : (files : Files) (name : List ℕ) (refusal : Refusal) (crowded : Bool) → TellsWhere crowded files name refusal Done → ⊥
no_told files name refusal true h = subst IsDone h tt
no_told files name refusal false h = no_refusal files name refusal (source_at files name) h

done_told : (files : Files) (own : Answer) → TellsOrFails files own Done → own ≡ Done
done_told files (Refused name refusal) h = absurd (no_told files name refusal (is_crowded files) h)
done_told files _ h = sym h

done_is_no_memory : Done ≡ NoMemory → ⊥
done_is_no_memory e = subst IsDone e tt

done_answer : (files : Files) (own : Answer) → TellsOrFails files own Done ⊎ (Done ≡ NoMemory) → own ≡ Done
done_answer files own h = ⊎_elim {C = own ≡ Done} (λ t. done_told files own t) (λ n. absurd (done_is_no_memory n)) h

-- a store that tells its files
left_by : (opts : Opts) (told : Told) (mid : Option Told) → BuildsFirst (Some (Build opts)) Done told mid → (comes : Result Outcome BuildFault) → SeenOutcome told.files opts comes → (left : Told) × (mid ≡ Some left)
left_by opts told mid h (Ok outcome) b = (after_puts told outcome.puts, h.puts (Ok outcome) b)
left_by opts told mid h (Err fault) b = absurd (not_done fault (h.answers (Err fault) b))

-- and the input as it was
built_rest : (comes : Result Outcome BuildFault) (input : List ℕ) → (built_effect comes input).rest ≡ input
built_rest (Ok outcome) input = refl
built_rest (Err fault) input = refl

input_left : (opts : Opts) (told : Told) (mid : Option Told) (input : List ℕ) (input' report report' : Option (List ℕ)) → DoesAs (Some (Build opts)) Done told mid input input' report report' → input' ≡ Some input
input_left opts told mid input input' report report' d =
    let c = d.found.1 in
    d.rest d.found.0 c ∙ ap (λ (l : List ℕ). Some l) (ap (λ (e : Effect). e.rest) c.2 ∙ built_rest c.0 input)

-- ---- both calls

abbrev RunsOver : ℕ → Answer → (mid new : Option Told) → (input input' taken taken' : Option (List ℕ)) → Type 0
RunsOver steps answer mid new input input' taken taken' = IfSome mid (λ left. IfSome input (λ rest. AnswersAs (Some (Run steps)) answer left new rest input' taken taken'))

says_behind : Runs → OneProgram → OneImage → Compiling → HasTree hello_text hello_syntax → Checks hello_syntax (Ok hello_tree) → RunsAsGo
    → (opts : Opts) (steps : ℕ) → IsWithin (Build opts) → (answer : Answer) (told : Told) (mid new : Option Told) (input : List ℕ) (later input' report report' taken taken' : Option (List ℕ))
    → BuildsFirst (Some (Build opts)) Done told mid → DoesAs (Some (Build opts)) Done told mid input later report report' → RunsOver steps answer mid new later input' taken taken' → Keeps mid new → LeavesStreams answer later input' taken taken'
    → HoldsHello told.files → KeepsGenuine told.files → AreBytes input → IfSome new (λ now. HoldsShortImage now.files → SaysHi answer taken taken')
says_behind runs one images exact tree checks law opts steps within answer told mid new input later input' report report' taken taken' built does ran keeps streams holds genuine bytes =
    let both : RunOpts = record { build = opts; budget = steps } in
    let left = left_by opts told mid built built.found.0 built.found.1 in
    let rest = input_left opts told mid input later report report' does in
    let kept : new ≡ Some left.0 = subst (λ o. Keeps o new) left.1 keeps in
    let over : AnswersAs (Some (Run steps)) answer left.0 new input input' taken taken' =
    subst (λ i. RunsOver steps answer (Some left.0) new i input' taken taken') rest (subst (λ o. RunsOver steps answer o new later input' taken taken') left.1 ran) in
    subst (λ o. IfSome o (λ now. HoldsShortImage now.files → SaysHi answer taken taken')) (sym kept) (λ short.
    let as_go = law both over.answer told new input input' taken taken' (record { are = within; genuine = genuine; left = left.0; built = subst (λ o. BuildsFirst (Some (Build opts)) Done told o) left.1 built; short = short; ran = over.does }) in
    let streams_left = subst (λ i. LeavesStreams answer i input' taken taken') rest streams in
    ⊎_elim {C = SaysHi answer taken taken'} (λ s. subst (λ a. SaysHi a taken taken') (sym s)
    (says_built runs one images exact tree checks told new both holds within.least input bytes over.answer input' taken taken' (λ e. stays answer (Some input) input' taken taken' streams_left (s ∙ e)) (as_go.1 genuine)))
    (λ n. no_memory_says answer taken taken' n) over.answered)

-- of a store and an input that tell what they hold
pub says_hi_behind : Runs → OneProgram → OneImage → Compiling → HasTree hello_text hello_syntax → Checks hello_syntax (Ok hello_tree) → RunsAsGo
    → ((words : List (List ℕ)) (command : Command) → command_of words ≡ Some command → IsWithin command)
    → (words others : List (List ℕ)) (old mid new : Option Told) (input later input' report report' taken taken' : Option (List ℕ)) (first answer : Answer)
    → IfSome old (λ told. BuildsAs (command_of words) first told mid)
    → IfSome old (λ told. IfSome input (λ rest. AnswersAs (command_of words) first told mid rest later report report'))
    → IfSome mid (λ left. IfSome later (λ rest. AnswersAs (command_of others) answer left new rest input' taken taken'))
    → (OnlyReads (command_of others) → Keeps mid new)
    → (IsNoSession (command_of others) → LeavesStreams answer later input' taken taken')
    → (opts : Opts) (steps : ℕ) → command_of words ≡ Some (Build opts) → command_of others ≡ Some (Run steps) → first ≡ Done
    → IfSome old (λ told. HoldsHello told.files → KeepsGenuine told.files → IfSome input (λ rest. AreBytes rest → IfSome new (λ left. HoldsShortImage left.files → SaysHi answer taken taken')))
says_hi_behind runs one images exact tree checks law lawful words others None mid new input later input' report report' taken taken' first answer built does ran keeps streams opts steps e f done = tt
says_hi_behind runs one images exact tree checks law lawful words others (Some told) mid new None later input' report report' taken taken' first answer built does ran keeps streams opts steps e f done = λ holds genuine. tt
says_hi_behind runs one images exact tree checks law lawful words others (Some told) mid new (Some input) later input' report report' taken taken' first answer built does ran keeps streams opts steps e f done = λ holds genuine bytes.
    let b : BuildsAs (Some (Build opts)) Done told mid = subst (λ (a : Answer). BuildsAs (Some (Build opts)) a told mid) done (subst (λ (c : Option Command). BuildsAs c first told mid) e built) in
    let d : AnswersAs (Some (Build opts)) Done told mid input later report report' =
    subst (λ (a : Answer). AnswersAs (Some (Build opts)) a told mid input later report report') done (subst (λ (c : Option Command). AnswersAs c first told mid input later report report') e does) in
    says_behind runs one images exact tree checks law opts steps (lawful words (Build opts) e) answer told mid new input later input' report report' taken taken'
    (subst (λ (a : Answer). BuildsFirst (Some (Build opts)) a told mid) (done_answer told.files b.answer b.answered) b.built)
    (subst (λ (a : Answer). DoesAs (Some (Build opts)) a told mid input later report report') (done_answer told.files d.answer d.answered) d.does)
    (subst (λ (c : Option Command). IfSome mid (λ left. IfSome later (λ rest. AnswersAs c answer left new rest input' taken taken'))) f ran)
    (keeps (subst (λ (c : Option Command). OnlyReads c) (sym f) tt))
    (streams (subst (λ (c : Option Command). IsNoSession c) (sym f) tt))
    holds genuine bytes
