-- What `phase1` answered and put, by the one flow graph of the text.
use Rattle.std.proofs.Common.{◌≡◌, ℕ, Bool, true, false, List, Option, Some, None, Result, Ok, Err, refl, sym, ap, ◌∙◌, subst}
use Rattle.std.specs.Prelude.{IfOk, IfSome, Vec}
use Rattle.std.specs.declared.alloc.Global.{Global}
use Rattle.pw_io.specs.Files.{Told, Keeps}
use Rattle.pw_front_end.specs.Fronts.{HoldsNoWant}
use Rattle.pw_front_end.specs.Places.{refusal_line}
use Rattle.pw_front_end.specs.declared.refusal.Refusal.{Refusal}
use Rattle.pw_flow.specs.declared.flow.FlowModule.{FlowModule}
use Rattle.pw_flow.specs.ValidFlow.{IsValid}
use Rattle.pw_flowfile.specs.FlowFile.{IsFlowFile}
use Rattle.pw_opt_rules.specs.Optimised.{IsOptimisedModule}
use Rattle.pw_summary.specs.declared.summary.Summary.{Summary}
use Rattle.pw_summary_file.specs.Spelling.{IsSummaryFile}
use Rattle.pw_summarise.specs.Summarises.{Summarises}
use Rattle.pw_phase_one.specs.FirstPhase.{Phase, compiled}
use Rattle.pw_store_modules.specs.FileNames.{text_name}
use Rattle.pw_top_answer.specs.declared.answer.Answer.{Answer}
use Rattle.pw_top_answer.specs.declared.answer.Answer.TheVariants.{Done, Refused, RefusedSource, StoreFault, NoMemory, BadFile, Undefined, UndefinedSource}
use Rattle.pw_top_answer.specs.Effects.{Effect, PutsFiles, answers_alone, puts_files}
use Rattle.pw_top_answer.specs.Outcomes.{Answers, IsLineDue, StoreCount}
use Rattle.pw_commands.specs.Needed.{StopsAs, needed_bytes}
use Rattle.pw_commands.specs.Outcome.{IsFileStop, IsPutAnswer, Obeys}
use Rattle.pw_commands.proofs.ObeysLemmas.{obeys_fault, obeys_no_memory, obeys_one, put_answers, puts_none}
use Rattle.pw_commands_phases.specs.First.{AreBytesOf, AreFormBytes, EffectOfPhase, IsForm, IsSumOf, TextEffect, PhaseOneOver, line_in, line_over, text_line, two_files}
use Rattle.pw_commands_phases.specs.Made.{AnswersPhase, AreOfPhase, IsTextAnswer, IsTextStop, RefusesPhase, TellsReply, line_of}

-- the laws on which it stands: one optimised form, one file of a flow graph, one summary, one file of it
pub record Laws : Type 0 where
  pub form : (m n p : FlowModule) → IsOptimisedModule m n → IsOptimisedModule m p → n ≡ p
  pub flow_file : (bytes others : List ℕ) (m : FlowModule) → IsFlowFile bytes m → IsFlowFile others m → bytes ≡ others
  pub summary : (m : FlowModule) (s t : Summary) → IsValid m → Summarises m s → Summarises m t → s ≡ t
  pub summary_file : (bytes others : List ℕ) (s : Summary) → IsSummaryFile bytes s → IsSummaryFile others s → bytes ≡ others

one_sum : Laws → (flow : FlowModule) (sum sum' : List ℕ) → IsValid flow → IsSumOf flow sum → IsSumOf flow sum' → sum' ≡ sum
one_sum laws flow sum sum' lawful a b =
    let same : b.summary ≡ a.summary = laws.summary flow b.summary a.summary lawful b.summarises a.summarises in
    laws.summary_file sum' sum a.summary (subst (IsSummaryFile sum') same b.file) a.file

one_form : Laws → (o : Bool) (flow form other : FlowModule) → IsForm o flow form → IsForm o flow other → form ≡ other
one_form laws false flow form other e f = e ∙ sym f
one_form laws true flow form other is also_is = laws.form flow form other is also_is

made_alone : Laws → (name : List ℕ) (o : Bool) (flow : FlowModule) (input bytes sum : List ℕ) → AreFormBytes o flow bytes sum → (e : Effect) → EffectOfPhase name o (Ok flow) input e → e ≡ puts_files (two_files name bytes sum) input
made_alone laws name o flow input bytes sum are e (bytes', sum', are', is) =
    let a = are.bytes_of in
    let b : AreBytesOf are.form bytes' sum' = subst (λ (m : FlowModule). AreBytesOf m bytes' sum') (one_form laws o flow are'.form are.form are'.of_flow are.of_flow) are'.bytes_of in
    is ∙ ap (λ (bs : List ℕ). puts_files (two_files name bs sum') input) (laws.flow_file bytes' bytes are.form b.flow_file a.flow_file)
    ∙ ap (λ (s : List ℕ). puts_files (two_files name bytes s) input) (one_sum laws are.form sum sum' a.lawful a.sum_file b.sum_file)

phase_made : Laws → (name : List ℕ) (o : Bool) (phase : Phase) (bytes sum : List ℕ) (answer : Answer) (told : Told) (new : Option Told) (input : List ℕ) → AreOfPhase o phase bytes sum → IsPutAnswer answer
    → PutsFiles (two_files name bytes sum) answer told new → Obeys (EffectOfPhase name o phase input) answer told new
phase_made laws name o (Ok flow) bytes sum answer told new input are h puts =
    obeys_one (EffectOfPhase name o (Ok flow) input) (puts_files (two_files name bytes sum) input) answer told new (bytes, sum, are, refl) (made_alone laws name o flow input bytes sum are) (put_answers answer h) puts
phase_made laws name o (Err refusal) bytes sum answer told new input are h puts = absurd are

-- the files were put, as far as the store put them
pub obeys_made : Laws → (first new : Option Told) (name : List ℕ) (o : Bool) (text bytes sum : List ℕ) (answer : Answer) → AreOfPhase o (compiled name text) bytes sum → IsPutAnswer answer
    → IfSome first (λ t. PutsFiles (two_files name bytes sum) answer t new) → IfSome first (λ t. (input : List ℕ) → Obeys (EffectOfPhase name o (compiled name text) input) answer t new)
obeys_made laws None new name o text bytes sum answer are h puts = tt
obeys_made laws (Some told) new name o text bytes sum answer are h puts = λ input. phase_made laws name o (compiled name text) bytes sum answer told new input are h puts

-- ---- a reply in place of files

-- the refusal with its line
abbrev pub RepliesPhase : List ℕ → List ℕ → Phase → Answer → Option ℕ → Type 0
RepliesPhase name text (Ok flow) answer line = ⊥
RepliesPhase name text (Err refusal) answer line = (answer ≡ Refused name refusal) × (line ≡ Some (refusal_line text refusal))

-- want of memory may come in its place
abbrev pub Replies : List ℕ → List ℕ → Phase → Answer → Option ℕ → Type 0
Replies name text phase NoMemory line = Unit {0}
Replies name text phase answer line = RepliesPhase name text phase answer line

refused_reply : (name text : List ℕ) (phase : Phase) (answer : Answer) (line : Option ℕ) → RefusesPhase name phase answer → line ≡ line_of text answer → RepliesPhase name text phase answer line
refused_reply name text (Ok flow) answer line h e = absurd h
refused_reply name text (Err refusal) answer line h e = (h, e ∙ ap (line_of text) h)

pub replies : (name text : List ℕ) (phase : Phase) (answer told : Answer) (line : Option ℕ) → AnswersPhase name phase answer → TellsReply text answer told line → Replies name text phase told line
replies name text phase answer NoMemory line h t = tt
replies name text phase answer _ line h t = refused_reply name text phase _ line (subst (AnswersPhase name phase) (sym t.0) h) (t.1 ∙ sym (ap (line_of text) t.0))

phase_replied : (name : List ℕ) (o : Bool) (text : List ℕ) (phase : Phase) (answer : Answer) (line : Option ℕ) (told : Told) (input : List ℕ) → RepliesPhase name text phase answer line → Obeys (EffectOfPhase name o phase input) answer told (Some told)
phase_replied name o text (Ok flow) answer line told input h = absurd h
phase_replied name o text (Err refusal) answer line told input h =
    subst (λ (a : Answer). Obeys (EffectOfPhase name o (Err refusal) input) a told (Some told)) (sym h.0)
    (obeys_one (EffectOfPhase name o (Err refusal) input) (answers_alone (Refused name refusal) input) (Refused name refusal) told (Some told) refl (λ x d. d) refl refl)

so_replied : (name : List ℕ) (o : Bool) (text : List ℕ) (phase : Phase) (answer : Answer) (line : Option ℕ) (told : Told) (input : List ℕ) → Replies name text phase answer line → Obeys (EffectOfPhase name o phase input) answer told (Some told)
so_replied name o text phase NoMemory line told input h = obeys_no_memory (EffectOfPhase name o phase input) told (Some told) refl
so_replied name o text phase _ line told input h = phase_replied name o text phase _ line told input h

pub obeys_replied : (first : Option Told) (name : List ℕ) (o : Bool) (text : List ℕ) (answer : Answer) (line : Option ℕ) → Replies name text (compiled name text) answer line
    → IfSome first (λ t. (input : List ℕ) → Obeys (EffectOfPhase name o (compiled name text) input) answer t first)
obeys_replied None name o text answer line h = tt
obeys_replied (Some told) name o text answer line h = λ input. so_replied name o text (compiled name text) answer line told input h

-- its kind
phase_kind : (name text : List ℕ) (phase : Phase) (answer : Answer) (line : Option ℕ) → ((refusal : Refusal) → phase ≡ Err refusal → HoldsNoWant refusal) → RepliesPhase name text phase answer line → IsTextStop answer
phase_kind name text (Ok flow) answer line law h = absurd h
phase_kind name text (Err refusal) answer line law h = subst IsTextStop (sym h.0) (law refusal refl)

-- no refusal of a module is one for want of memory
abbrev pub NoPhaseWants : Type 0
NoPhaseWants = (name text : List ℕ) (refusal : Refusal) → compiled name text ≡ Err refusal → HoldsNoWant refusal

pub reply_kind : NoPhaseWants → (name text : List ℕ) (answer : Answer) (line : Option ℕ) → Replies name text (compiled name text) answer line → IsTextStop answer
reply_kind law name text NoMemory line h = tt
reply_kind law name text _ line h = phase_kind name text (compiled name text) _ line (law name text) h

pub text_stop_is : (answer : Answer) → IsTextStop answer → IsTextAnswer answer
text_stop_is (Refused name refusal) h = h
text_stop_is NoMemory h = tt
text_stop_is _ h = absurd h

pub text_stop_count : (n : ℕ) (answer : Answer) → IsTextStop answer → StoreCount n n answer
text_stop_count n StoreFault h = absurd h
text_stop_count n _ h = refl

-- its line
phase_due : (name text : List ℕ) (phase : Phase) (answer : Answer) (line : Option ℕ) → RepliesPhase name text phase answer line → line ≡ line_in text phase
phase_due name text (Ok flow) answer line h = absurd h
phase_due name text (Err refusal) answer line h = h.1

no_source : (name text : List ℕ) (phase : Phase) (own : List ℕ) (refusal : Refusal) (line : Option ℕ) → RepliesPhase name text phase (RefusedSource own refusal) line → ⊥
no_source name text (Ok flow) own refusal line h = h
no_source name text (Err other) own refusal line h = let e : RefusedSource own refusal ≡ Refused name other = h.0 in cc

no_operation : (name text : List ℕ) (phase : Phase) (operation : _) (home : List ℕ) (token : ℕ) (line : Option ℕ) → RepliesPhase name text phase (Undefined operation home token) line → ⊥
no_operation name text (Ok flow) operation home token line h = h
no_operation name text (Err other) operation home token line h = let e : Undefined operation home token ≡ Refused name other = h.0 in cc

no_source_operation : (name text : List ℕ) (phase : Phase) (operation : _) (home : List ℕ) (token : ℕ) (line : Option ℕ) → RepliesPhase name text phase (UndefinedSource operation home token) line → ⊥
no_source_operation name text (Ok flow) operation home token line h = h
no_source_operation name text (Err other) operation home token line h = let e : UndefinedSource operation home token ≡ Refused name other = h.0 in cc

pub reply_due : (name text : List ℕ) (phase : Phase) (answer : Answer) (line : Option ℕ) → Replies name text phase answer line → IsLineDue (line_in text phase) answer line
reply_due name text phase (Refused own refusal) line h = phase_due name text phase (Refused own refusal) line h
reply_due name text phase (RefusedSource own refusal) line h = absurd (no_source name text phase own refusal line h)
reply_due name text phase (Undefined operation home token) line h = absurd (no_operation name text phase operation home token line h)
reply_due name text phase (UndefinedSource operation home token) line h = absurd (no_source_operation name text phase operation home token line h)
reply_due name text phase _ line h = tt

-- ---- answers that name no module

pub put_line : (due : Option ℕ) (answer : Answer) (line : Option ℕ) → IsPutAnswer answer → IsLineDue due answer line
put_line due (Refused own refusal) line h = absurd h
put_line due (RefusedSource own refusal) line h = absurd h
put_line due (Undefined operation home token) line h = absurd h
put_line due (UndefinedSource operation home token) line h = absurd h
put_line due _ line h = tt

pub put_is_phase : (answer : Answer) → IsPutAnswer answer → IsTextAnswer answer
put_is_phase Done h = tt
put_is_phase StoreFault h = tt
put_is_phase NoMemory h = tt
put_is_phase _ h = absurd h

pub file_stop_is : (answer : Answer) → IsFileStop answer → IsTextAnswer answer
file_stop_is StoreFault h = tt
file_stop_is NoMemory h = tt
file_stop_is (BadFile name at) h = tt
file_stop_is _ h = absurd h

stop_line : (due : Option ℕ) (answer : Answer) (line : Option ℕ) → IsFileStop answer → IsLineDue due answer line
stop_line due (Refused own refusal) line h = absurd h
stop_line due (RefusedSource own refusal) line h = absurd h
stop_line due (Undefined operation home token) line h = absurd h
stop_line due (UndefinedSource operation home token) line h = absurd h
stop_line due _ line h = tt

pub file_stop_line : (first : Option Told) (name : List ℕ) (answer : Answer) (line : Option ℕ) → IsFileStop answer → IfSome first (λ t. IsLineDue (text_line t.files name) answer line)
file_stop_line None name answer line h = tt
file_stop_line (Some t) name answer line h = stop_line (text_line t.files name) answer line h

-- ---- over the text that is needed

stop_answers : (answer : Answer) → IsFileStop answer → Answers answer answer
stop_answers StoreFault h = tt
stop_answers NoMemory h = tt
stop_answers (BadFile name at) h = refl
stop_answers _ h = absurd h

stopped_by : (name : List ℕ) (o : Bool) (wanted : Result (List ℕ) Answer) (answer : Answer) (told : Told) (new : Option Told) (input : List ℕ) → IsFileStop answer → wanted ≡ Err answer → new ≡ Some told
    → Obeys (PhaseOneOver name o wanted input) answer told new
stopped_by name o wanted answer told new input k h e =
    subst (λ (w : Result (List ℕ) Answer). Obeys (PhaseOneOver name o w input) answer told new) (sym h)
    (obeys_one (PhaseOneOver name o (Err answer) input) (answers_alone answer input) answer told new refl (λ x d. d) (stop_answers answer k) (puts_none answer told new e))

over_stopped : (name : List ℕ) (o : Bool) (wanted : Result (List ℕ) Answer) (answer : Answer) (told : Told) (new : Option Told) (input : List ℕ) → IsFileStop answer → StopsAs answer wanted → new ≡ Some told
    → Obeys (PhaseOneOver name o wanted input) answer told new
over_stopped name o wanted StoreFault told new input k h e = obeys_fault (PhaseOneOver name o wanted input) told new e
over_stopped name o wanted NoMemory told new input k h e = obeys_no_memory (PhaseOneOver name o wanted input) told new e
over_stopped name o wanted _ told new input k h e = stopped_by name o wanted _ told new input k h e

-- the text is absent, or was not read
pub obeys_stopped : (first new : Option Told) (name : List ℕ) (o : Bool) (answer : Answer) → IfSome first (λ t. StopsAs answer (needed_bytes t.files (text_name name))) → Keeps first new → IsFileStop answer
    → IfSome first (λ t. (input : List ℕ) → Obeys (TextEffect t.files name o input) answer t new)
obeys_stopped None new name o answer h same k = tt
obeys_stopped (Some told) new name o answer h same k = λ input. over_stopped name o (needed_bytes told.files (text_name name)) answer told new input k h same

-- it was read
pub obeys_text : (first now new : Option Told) (name : List ℕ) (o : Bool) (text : List ℕ) (answer : Answer) → IfSome first (λ t. needed_bytes t.files (text_name name) ≡ Ok text) → Keeps first now
    → IfSome now (λ t. (input : List ℕ) → Obeys (EffectOfPhase name o (compiled name text) input) answer t new) → IfSome first (λ t. (input : List ℕ) → Obeys (TextEffect t.files name o input) answer t new)
obeys_text None now new name o text answer e same h = tt
obeys_text (Some told) now new name o text answer e same h =
    let P : Option Told → Type 0 = λ held. IfSome held (λ t. (input : List ℕ) → Obeys (EffectOfPhase name o (compiled name text) input) answer t new) in
    λ input. subst (λ (w : Result (List ℕ) Answer). Obeys (PhaseOneOver name o w input) answer told new) (sym e) (subst P same h input)

pub line_of_text : (first : Option Told) (name text : List ℕ) (answer : Answer) (line : Option ℕ) → IfSome first (λ t. needed_bytes t.files (text_name name) ≡ Ok text) → IsLineDue (line_in text (compiled name text)) answer line
    → IfSome first (λ t. IsLineDue (text_line t.files name) answer line)
line_of_text None name text answer line e h = tt
line_of_text (Some t) name text answer line e h = subst (λ (w : Result (List ℕ) Answer). IsLineDue (line_over name w) answer line) (sym e) h

-- ---- inside

-- the bytes of a summary's file are those of the flow graph's
pub sum_made : {E : Type 0} → (flow : FlowModule) (summary : Summary) (result : Result (Vec ℕ Global) E) → Summarises flow summary → IfOk result (λ sum. IsSummaryFile sum.items summary) → IfOk result (λ sum. IsSumOf flow sum.items)
sum_made flow summary (Ok sum) says file = record { summary = summary; summarises = says; file = file }
sum_made flow summary (Err error) says file = tt
