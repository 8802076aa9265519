-- What `phase1` answered and put of a module that may have a C source.
use Rattle.std.proofs.Common.{◌≡◌, ℕ, Bool, List, Option, Some, None, Ok, Err, refl, sym, ap, ◌∙◌, subst}
use Rattle.std.specs.Prelude.{IfSome, IsSomeAnd}
use Rattle.std.specs.Global.{Vec}
use Rattle.std.specs.FinMap as finite
use Rattle.pw_io.specs.Files.{Files, Told, Keeps, prefix_of}
use Rattle.pw_io.specs.declared.StoreError.{StoreError}
use Rattle.pw_io.specs.declared.StoreError.TheVariants as store
use Rattle.pw_flow.specs.declared.flow.FlowModule.{FlowModule}
use Rattle.pw_front_end.specs.declared.refusal.Refusal.{Refusal}
use Rattle.pw_phase_one.specs.FirstPhase.{Phase, compiled}
use Rattle.pw_store_modules.specs.Modules.{text_read}
use Rattle.pw_store_texts.specs.Headers.{headers_of}
use Rattle.pw_store_texts.specs.Names.{source_name}
use Rattle.pw_store_texts.specs.Outputs.{ComesBy, Output}
use Rattle.pw_top_answer.specs.declared.answer.Answer.{Answer}
use Rattle.pw_top_answer.specs.declared.answer.Answer.TheVariants.{Done, Refused, RefusedSource, Cpp, ReadFault, WriteFault, StoreFault, NoMemory, BadFile}
use Rattle.pw_top_answer.specs.Effects.{Effect, PutsFiles, answers_alone}
use Rattle.pw_top_answer.specs.Outcomes.{IsLineDue, StoreCount, store_answer}
use Rattle.pw_commands.specs.Others.{KeepsOthers, PutsOnly}
use Rattle.pw_commands.specs.Outcome.{IsFound, Obeys}
use Rattle.pw_commands.proofs.ObeysLemmas.{obeys_fault, obeys_no_memory, obeys_one, puts_none}
use Rattle.pw_commands.proofs.OthersLemmas.{kept_others, then_others}
use Rattle.pw_commands_cpp.specs.Command.{cpp_fault}
use Rattle.pw_commands_cpp.specs.Telling.{ComesOf}
use Rattle.pw_commands_phases.specs.First.{EffectBy, EffectOfOutput, EffectOfPhase, EffectOfSource, IsLineBy, IsPhaseLine, PhaseOneEffect, TextEffect, line_in, output_line, text_line}
use Rattle.pw_commands_phases.specs.Made.{IsPhaseAnswer, IsTextAnswer, source_answer}

-- ---- the answer on an output

-- what is no refusal is told as it is
pub same_answer : (answer : Answer) → ((name : List ℕ) (refusal : Refusal) → answer ≡ Refused name refusal → ⊥) → answer ≡ source_answer answer
same_answer (Refused name refusal) not = absurd (not name refusal refl)
same_answer _ not = refl

refused_is : (name own : List ℕ) (refusal other : Refusal) → Refused name refusal ≡ Refused own other → RefusedSource name refusal ≡ RefusedSource own other
refused_is name own refusal other e = ap source_answer e

not_done : (name : List ℕ) (refusal : Refusal) → Refused name refusal ≡ Done → ⊥
not_done name refusal e = cc

not_bad : (name own : List ℕ) (refusal : Refusal) (offset : Option ℕ) → Refused name refusal ≡ BadFile own offset → ⊥
not_bad name own refusal offset e = cc

done_is_no_refusal : (own : List ℕ) (refusal : Refusal) → Done ≡ Refused own refusal → ⊥
done_is_no_refusal own refusal e = cc

flow_done : (name : List ℕ) (o : Bool) (flow : FlowModule) (input : List ℕ) (e : Effect) → EffectOfPhase name o (Ok flow) input e → Done ≡ e.answer
flow_done name o flow input e (bytes, sum, are, is) = sym (ap (λ (x : Effect). x.answer) is)

-- nothing is put where the text is refused
no_puts : (name : List ℕ) (o : Bool) (refusal : Refusal) (answer : Answer) (told : Told) (new : Option Told) (input : List ℕ) → Obeys (EffectOfPhase name o (Err refusal) input) answer told new
    → (e : Effect) → EffectOfSource name o (Err refusal) input e → PutsFiles e.puts answer told new
no_puts name o refusal answer told new input h e d = subst (λ (x : Effect). PutsFiles x.puts answer told new) (sym d) (h.puts (answers_alone (Refused name refusal) input) refl)

-- a text that is refused
refused_obeys : (name : List ℕ) (o : Bool) (refusal : Refusal) (answer : Answer) (told : Told) (new : Option Told) (input : List ℕ) → IsTextAnswer answer → Obeys (EffectOfPhase name o (Err refusal) input) answer told new
    → Obeys (EffectOfSource name o (Err refusal) input) (source_answer answer) told new
refused_obeys name o refusal (Refused own other) told new input k h =
    let first = answers_alone (Refused name refusal) input in
    obeys_one (EffectOfSource name o (Err refusal) input) (answers_alone (RefusedSource name refusal) input) (RefusedSource own other) told new refl (λ e d. d) (refused_is name own refusal other (h.answers first refl)) (h.puts first refl)
refused_obeys name o refusal StoreFault told new input k h = record { answers = λ e d. tt; puts = no_puts name o refusal StoreFault told new input h; found = tt }
refused_obeys name o refusal NoMemory told new input k h = record { answers = λ e d. tt; puts = no_puts name o refusal NoMemory told new input h; found = tt }
refused_obeys name o refusal Done told new input k h = absurd (not_done name refusal (h.answers (answers_alone (Refused name refusal) input) refl))
refused_obeys name o refusal (BadFile own offset) told new input k h = absurd (not_bad name own refusal offset (h.answers (answers_alone (Refused name refusal) input) refl))
refused_obeys name o refusal _ told new input k h = absurd k

-- one that is not
phase_obeys : (name : List ℕ) (o : Bool) (phase : Phase) (answer : Answer) (told : Told) (new : Option Told) (input : List ℕ) → IsTextAnswer answer → Obeys (EffectOfPhase name o phase input) answer told new
    → Obeys (EffectOfSource name o phase input) (source_answer answer) told new
phase_obeys name o (Err refusal) answer told new input k h = refused_obeys name o refusal answer told new input k h
phase_obeys name o (Ok flow) (Refused own refusal) told new input k h =
    absurd (done_is_no_refusal own refusal (flow_done name o flow input h.found.0 h.found.1 ∙ h.found.2))
phase_obeys name o (Ok flow) Done told new input k h = h
phase_obeys name o (Ok flow) StoreFault told new input k h = h
phase_obeys name o (Ok flow) NoMemory told new input k h = h
phase_obeys name o (Ok flow) (BadFile own at) told new input k h = h
phase_obeys name o (Ok flow) _ told new input k h = absurd k

pub source_obeys : (first new : Option Told) (name : List ℕ) (o : Bool) (phase : Phase) (answer told : Answer) → told ≡ source_answer answer → IsTextAnswer answer → IfSome first (λ t. (input : List ℕ) → Obeys (EffectOfPhase name o phase input) answer t new)
    → IfSome first (λ t. (input : List ℕ) → Obeys (EffectOfSource name o phase input) told t new)
source_obeys None new name o phase answer told e k h = tt
source_obeys (Some t) new name o phase answer told e k h = λ input. subst (λ (a : Answer). Obeys (EffectOfSource name o phase input) a t new) (sym e) (phase_obeys name o phase answer t new input k (h input))

fault_is : (answer : Answer) → answer ≡ StoreFault → source_answer answer ≡ StoreFault
fault_is answer e = ap source_answer e

only_source : (names : List (List ℕ)) (answer : Answer) (told left : Told) → IsTextAnswer answer → PutsOnly names answer told left → PutsOnly names (source_answer answer) told left
only_source names answer told left k h =
    record { put = h.put; failed = h.failed; own = h.own; one = h.one; none = λ ne. h.none (λ e. ne (fault_is answer e)); told_so = h.told_so; same = h.same }

others_source : (names : List (List ℕ)) (answer : Answer) (told : Told) (new : Option Told) → IsTextAnswer answer → IsSomeAnd new (PutsOnly names answer told) → IsSomeAnd new (PutsOnly names (source_answer answer) told)
others_source names answer told None k h = absurd h
others_source names answer told (Some left) k h = only_source names answer told left k h

pub source_others : (names : List (List ℕ)) (answer told : Answer) (old new : Option Told) → told ≡ source_answer answer → IsTextAnswer answer → KeepsOthers names answer old new → KeepsOthers names told old new
source_others names answer told None new e k h = tt
source_others names answer told (Some t) new e k h = subst (λ (a : Answer). KeepsOthers names a (Some t) new) (sym e) (others_source names answer t new k h)

line_source : (due : Option ℕ) (answer : Answer) (line : Option ℕ) → IsTextAnswer answer → IsLineDue due answer line → IsLineDue due (source_answer answer) line
line_source due (Refused name refusal) line k h = h
line_source due Done line k h = tt
line_source due StoreFault line k h = tt
line_source due NoMemory line k h = tt
line_source due (BadFile name at) line k h = tt
line_source due _ line k h = absurd k

pub source_line : (due : Option ℕ) (answer told : Answer) (number line : Option ℕ) → told ≡ source_answer answer → line ≡ number → IsTextAnswer answer → IsLineDue due answer number → IsLineDue due told line
source_line due answer told number line e l k h =
    let P : Answer → Option ℕ → Type 0 = λ a n. IsLineDue due a n in
    subst (λ a. P a line) (sym e) (subst (λ n. P (source_answer answer) n) (sym l) (line_source due answer number k h))

kind_source : (answer : Answer) → IsTextAnswer answer → IsPhaseAnswer (source_answer answer)
kind_source (Refused name refusal) k = k
kind_source Done k = tt
kind_source StoreFault k = tt
kind_source NoMemory k = tt
kind_source (BadFile name at) k = tt
kind_source _ k = absurd k

pub source_kind : (answer told : Answer) → told ≡ source_answer answer → IsTextAnswer answer → IsPhaseAnswer told
source_kind answer told e k = subst IsPhaseAnswer (sym e) (kind_source answer k)

count_source : (before now : ℕ) (answer : Answer) → IsTextAnswer answer → StoreCount before now answer → StoreCount before now (source_answer answer)
count_source before now (Refused name refusal) k h = h
count_source before now Done k h = h
count_source before now StoreFault k h = h
count_source before now NoMemory k h = h
count_source before now (BadFile name at) k h = h
count_source before now _ k h = absurd k

pub source_count : (before now : ℕ) (answer told : Answer) → told ≡ source_answer answer → IsTextAnswer answer → StoreCount before now answer → StoreCount before now told
source_count before now answer told e k h = subst (StoreCount before now) (sym e) (count_source before now answer k h)

-- ---- over the store

-- a C source comes to one thing
abbrev pub OneOutput : Type 0
OneOutput = (files : Files) (name text : List ℕ) (output other : Output) → ComesBy (headers_of files) name text output → ComesBy (headers_of files) name text other → output ≡ other

-- with no C source
plain_by : (files : Files) (name : List ℕ) (o : Bool) (source : Option (List ℕ)) (answer : Answer) (told : Told) (new : Option Told) (input : List ℕ) → source ≡ None → Obeys (TextEffect files name o input) answer told new
    → Obeys (EffectBy files name o source input) answer told new
plain_by files name o source answer told new input e h = subst (λ (s : Option (List ℕ)). Obeys (EffectBy files name o s input) answer told new) (sym e) h

pub obeys_plain : (first mid new : Option Told) (name : List ℕ) (o : Bool) (answer : Answer) → IfSome first (λ t. ComesOf t.files name None) → Keeps first mid → IfSome mid (λ t. (input : List ℕ) → Obeys (TextEffect t.files name o input) answer t new)
    → IfSome first (λ t. (input : List ℕ) → Obeys (PhaseOneEffect t.files name o input) answer t new)
obeys_plain None mid new name o answer none same h = tt
obeys_plain (Some t) mid new name o answer none same h =
    let P : Option Told → Type 0 = λ held. IfSome held (λ u. (input : List ℕ) → Obeys (TextEffect u.files name o input) answer u new) in
    λ input. plain_by t.files name o (finite.get t.files (source_name name)) answer t new input none (subst P same h input)

-- with one
alone : OneOutput → (files : Files) (name text : List ℕ) (o : Bool) (output : Output) (input : List ℕ) (e : Effect) → ComesBy (headers_of files) name (prefix_of text_read text) output → EffectBy files name o (Some text) input e → EffectOfOutput name o output input e
alone one files name text o output input e is d = subst (λ (x : Output). EffectOfOutput name o x input e) (one files name (prefix_of text_read text) d.0 output d.1 is) d.2

found_by : (inner outer : Effect → Type 0) (answer : Answer) → ((e : Effect) → inner e → outer e) → IsFound inner answer → IsFound outer answer
found_by inner outer ReadFault f h = (h.0, f h.0 h.1)
found_by inner outer WriteFault f h = (h.0, f h.0 h.1)
found_by inner outer StoreFault f h = tt
found_by inner outer NoMemory f h = tt
found_by inner outer _ f h = (h.0, f h.0 h.1, h.2)

output_by : OneOutput → (files : Files) (name : List ℕ) (o : Bool) (output : Output) (source : Option (List ℕ)) (answer : Answer) (told : Told) (new : Option Told) (input : List ℕ)
    → IsSomeAnd source (λ text. ComesBy (headers_of files) name (prefix_of text_read text) output) → Obeys (EffectOfOutput name o output input) answer told new → Obeys (EffectBy files name o source input) answer told new
output_by one files name o output None answer told new input is h = absurd is
output_by one files name o output (Some text) answer told new input is h = record {
  answers = λ e d. h.answers e (alone one files name text o output input e is d);
  puts = λ e d. h.puts e (alone one files name text o output input e is d);
  found = found_by (EffectOfOutput name o output input) (EffectBy files name o (Some text) input) answer (λ e d. (output, is, d)) h.found;
}

pub obeys_output : OneOutput → (first mid new : Option Told) (name : List ℕ) (o : Bool) (text : Vec ℕ) (answer : Answer) → IfSome first (λ t. ComesOf t.files name (Some (Ok text))) → Keeps first mid
    → IfSome mid (λ t. (input : List ℕ) → Obeys (EffectOfSource name o (compiled name text.items) input) answer t new) → IfSome first (λ t. (input : List ℕ) → Obeys (PhaseOneEffect t.files name o input) answer t new)
obeys_output one None mid new name o text answer comes same h = tt
obeys_output one (Some t) mid new name o text answer comes same h =
    let P : Option Told → Type 0 = λ held. IfSome held (λ u. (input : List ℕ) → Obeys (EffectOfSource name o (compiled name text.items) input) answer u new) in
    λ input. output_by one t.files name o (Ok text.items) (finite.get t.files (source_name name)) answer t new input comes (subst P same h input)

-- whose preprocessing has a fault
faulty : (name : List ℕ) (o : Bool) (fault : _) (told : Told) (new : Option Told) (input : List ℕ) → new ≡ Some told → Obeys (EffectOfOutput name o (Err fault) input) (Cpp (cpp_fault fault)) told new
faulty name o fault told new input e =
    obeys_one (EffectOfOutput name o (Err fault) input) (answers_alone (Cpp (cpp_fault fault)) input) (Cpp (cpp_fault fault)) told new refl (λ x d. d) refl (puts_none (Cpp (cpp_fault fault)) told new e)

pub obeys_faulty : OneOutput → (first new : Option Told) (name : List ℕ) (o : Bool) (fault : _) → IfSome first (λ t. ComesOf t.files name (Some (Err fault))) → Keeps first new
    → IfSome first (λ t. (input : List ℕ) → Obeys (PhaseOneEffect t.files name o input) (Cpp fault) t new)
obeys_faulty one None new name o fault comes same = tt
obeys_faulty one (Some t) new name o fault comes same = λ input.
    output_by one t.files name o (Err (fault.kind, fault.file, fault.line)) (finite.get t.files (source_name name)) (Cpp fault) t new input comes (faulty name o (fault.kind, fault.file, fault.line) t new input same)

-- the store did not tell
failed : (name : List ℕ) (o : Bool) (error : StoreError) (told : Told) (new : Option Told) (input : List ℕ) → new ≡ Some told → Obeys (PhaseOneEffect told.files name o input) (store_answer error) told new
failed name o store.Failed told new input e = obeys_fault (PhaseOneEffect told.files name o input) told new e
failed name o store.NoMemory told new input e = obeys_no_memory (PhaseOneEffect told.files name o input) told new e

pub obeys_error : (first new : Option Told) (name : List ℕ) (o : Bool) (error : StoreError) → Keeps first new → IfSome first (λ t. (input : List ℕ) → Obeys (PhaseOneEffect t.files name o input) (store_answer error) t new)
obeys_error None new name o error same = tt
obeys_error (Some t) new name o error same = λ input. failed name o error t new input same

-- ---- the line

line_by : (files : Files) (name : List ℕ) (source : Option (List ℕ)) (answer : Answer) (line : Option ℕ) → source ≡ None → IsLineDue (text_line files name) answer line → IsLineBy files name source answer line
line_by files name source answer line e h = subst (λ (s : Option (List ℕ)). IsLineBy files name s answer line) (sym e) h

pub line_plain : (first mid : Option Told) (name : List ℕ) (answer : Answer) (line : Option ℕ) → IfSome first (λ t. ComesOf t.files name None) → Keeps first mid → IfSome mid (λ t. IsLineDue (text_line t.files name) answer line)
    → IfSome first (λ t. IsPhaseLine t.files name answer line)
line_plain None mid name answer line none same h = tt
line_plain (Some t) mid name answer line none same h =
    let P : Option Told → Type 0 = λ held. IfSome held (λ u. IsLineDue (text_line u.files name) answer line) in
    line_by t.files name (finite.get t.files (source_name name)) answer line none (subst P same h)

output_due : OneOutput → (files : Files) (name : List ℕ) (output : Output) (source : Option (List ℕ)) (answer : Answer) (line : Option ℕ) → IsSomeAnd source (λ text. ComesBy (headers_of files) name (prefix_of text_read text) output)
    → IsLineDue (output_line name output) answer line → IsLineBy files name source answer line
output_due one files name output None answer line is h = absurd is
output_due one files name output (Some text) answer line is h = λ other comes.
    subst (λ (x : Output). IsLineDue (output_line name x) answer line) (one files name (prefix_of text_read text) output other is comes) h

pub line_output : OneOutput → (first : Option Told) (name : List ℕ) (text : Vec ℕ) (answer : Answer) (line : Option ℕ) → IfSome first (λ t. ComesOf t.files name (Some (Ok text))) → IsLineDue (line_in text.items (compiled name text.items)) answer line
    → IfSome first (λ t. IsPhaseLine t.files name answer line)
line_output one None name text answer line comes h = tt
line_output one (Some t) name text answer line comes h = output_due one t.files name (Ok text.items) (finite.get t.files (source_name name)) answer line comes h

-- of an answer that names no module it is anything
no_line_by : (files : Files) (name : List ℕ) (source : Option (List ℕ)) (answer : Answer) (line : Option ℕ) → ((due : Option ℕ) → IsLineDue due answer line) → IsLineBy files name source answer line
no_line_by files name None answer line h = h (text_line files name)
no_line_by files name (Some text) answer line h = λ output comes. h (output_line name output)

pub line_faulty : (first : Option Told) (name : List ℕ) (fault : _) (line : Option ℕ) → IfSome first (λ t. IsPhaseLine t.files name (Cpp fault) line)
line_faulty None name fault line = tt
line_faulty (Some t) name fault line = no_line_by t.files name (finite.get t.files (source_name name)) (Cpp fault) line (λ due. tt)

error_line : (error : StoreError) (line due : Option ℕ) → IsLineDue due (store_answer error) line
error_line store.Failed line due = tt
error_line store.NoMemory line due = tt

pub line_error : (first : Option Told) (name : List ℕ) (error : StoreError) (line : Option ℕ) → IfSome first (λ t. IsPhaseLine t.files name (store_answer error) line)
line_error None name error line = tt
line_error (Some t) name error line = no_line_by t.files name (finite.get t.files (source_name name)) (store_answer error) line (error_line error line)

-- ---- the other files, and the kind of the answer

pub later_others : (names : List (List ℕ)) (answer : Answer) (old mid new : Option Told) → Keeps old mid → KeepsOthers names answer mid new → KeepsOthers names answer old new
later_others names answer old mid new same h = then_others names answer old mid new same h

pub same_others : (names : List (List ℕ)) (answer : Answer) (old new : Option Told) → Keeps old new → KeepsOthers names answer old new
same_others names answer old new same = kept_others names answer old new same

pub text_is_phase : (answer : Answer) → IsTextAnswer answer → IsPhaseAnswer answer
text_is_phase (Refused name refusal) k = k
text_is_phase Done k = tt
text_is_phase StoreFault k = tt
text_is_phase NoMemory k = tt
text_is_phase (BadFile name at) k = tt
text_is_phase _ k = absurd k
