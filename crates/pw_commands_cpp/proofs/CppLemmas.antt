-- What `cpp` answered and put, by the one output of the source.
use Rattle.std.proofs.Common.{◌≡◌, ◌≢◌, ℕ, List, [], ◌∷◌, Option, Some, None, Result, Ok, Err, refl, sym, ap, ◌∙◌, subst}
use Rattle.std.specs.Prelude.{IfSome, IfErr}
use Rattle.std.specs.Global.{Vec}
use Rattle.std.specs.Option.{option_map}
use Rattle.std.specs.FinMap as finite
use Rattle.pw_cpp.specs.Answers.{PreprocessesFile}
use Rattle.pw_cpp.specs.declared.fault.CppFault.{CppFault}
use Rattle.pw_cpp_directives.specs.declared.fault.CppKind.TheVariants as kind
use Rattle.pw_cpp_sources.specs.Sources.{Texts}
use Rattle.pw_io.specs.Files.{Told, Keeps, prefix_of}
use Rattle.pw_io.specs.declared.StoreError.{StoreError}
use Rattle.pw_io.specs.declared.StoreError.TheVariants as store
use Rattle.pw_store_modules.specs.FileNames.{text_name}
use Rattle.pw_store_modules.specs.Modules.{text_read}
use Rattle.pw_store_texts.specs.Headers.{headers_of}
use Rattle.pw_store_texts.specs.Names.{source_name}
use Rattle.pw_store_texts.specs.Outputs.{ComesBy, Output, files_with, output_of}
use Rattle.pw_top_answer.specs.declared.answer.Answer.{Answer}
use Rattle.pw_top_answer.specs.declared.answer.Answer.TheVariants.{Done, Cpp, StoreFault, NoMemory, BadFile}
use Rattle.pw_top_answer.specs.Effects.{Effect, PutsFiles, answers_alone, puts_files}
use Rattle.pw_top_answer.specs.Outcomes.{Answers, store_answer}
use Rattle.pw_commands.specs.Needed.{StopsAs}
use Rattle.pw_commands.specs.Outcome.{IsFileStop, IsPutAnswer, Obeys, StopCount}
use Rattle.pw_commands.proofs.ObeysLemmas.{obeys_fault, obeys_no_memory, obeys_one, put_answers, puts_none}
use Rattle.pw_commands_cpp.specs.Command.{CppEffect, CppOver, IsCppAnswer, cpp_fault, effect_of, needed_source, text_in}
use Rattle.pw_commands_cpp.specs.Steps.{ComesToOutput, IsCppStop, IsOutputOf, IsStopOf, output_or_fault}

-- ---- the source

text_found : (file : List ℕ) (o : Option (List ℕ)) (items : List ℕ) → Some items ≡ option_map (prefix_of text_read) o → text_in file o ≡ Ok items
text_found file None items e = cc
text_found file (Some text) items e =
    let same : items ≡ prefix_of text_read text = cc in
    let P : List ℕ → Result (List ℕ) Answer = λ x. Ok x in ap P (sym same)

text_gone : (file : List ℕ) (o : Option (List ℕ)) → ◌≡◌ {A = Option (List ℕ)} None (option_map (prefix_of text_read) o) → text_in file o ≡ Err (BadFile file None)
text_gone file None e = refl
text_gone file (Some text) e = cc

pub source-found : (first : Option Told) (file name items : List ℕ) → file ≡ source_name name
    → IfSome first (λ t. Some items ≡ option_map (prefix_of text_read) (finite.get t.files file)) → IfSome first (λ t. needed_source t.files name ≡ Ok items)
source-found None file name items e h = tt
source-found (Some t) file name items e h =
    let P : List ℕ → Type 0 = λ f. Some items ≡ option_map (prefix_of text_read) (finite.get t.files f) in
    text_found (source_name name) (finite.get t.files (source_name name)) items (subst P e h)

pub source-gone : (first : Option Told) (file own name : List ℕ) → file ≡ source_name name → own ≡ source_name name
    → IfSome first (λ t. ◌≡◌ {A = Option (List ℕ)} None (option_map (prefix_of text_read) (finite.get t.files file))) → IfSome first (λ t. needed_source t.files name ≡ Err (BadFile own None))
source-gone None file own name e o h = tt
source-gone (Some t) file own name e o h =
    let P : List ℕ → Type 0 = λ f. ◌≡◌ {A = Option (List ℕ)} None (option_map (prefix_of text_read) (finite.get t.files f)) in
    let Q : List ℕ → Result (List ℕ) Answer = λ f. Err (BadFile f None) in
    text_gone (source_name name) (finite.get t.files (source_name name)) (subst P e h) ∙ ap Q (sym o)

-- ---- the output

told_over : (headers : Texts) (name text : List ℕ) (made : Result (Vec ℕ) CppFault) → ComesBy headers name text (output_of made) → ComesToOutput headers name (Ok text) (output_or_fault made)
told_over headers name text (Ok output) h = h
told_over headers name text (Err fault) h = ((fault.kind, fault.file, fault.line), h, refl)

pub output_told : (first : Option Told) (headers : Texts) (name text : List ℕ) (made : Result (Vec ℕ) CppFault) → IfSome first (λ t. headers ≡ headers_of t.files) → ComesBy headers name text (output_of made)
    → IfSome first (λ t. ComesToOutput (headers_of t.files) name (Ok text) (output_or_fault made))
output_told None headers name text made e h = tt
output_told (Some t) headers name text made e h = told_over (headers_of t.files) name text made (subst (λ (x : Texts). ComesBy x name text (output_of made)) e h)

pub told_stops : (made : Result (Vec ℕ) CppFault) → IfErr made (λ fault. fault.kind ≢ kind.NoMemory) → IfErr (output_or_fault made) IsCppStop
told_stops (Ok output) h = tt
told_stops (Err fault) h = h

pub told_counts : (before now : ℕ) (made : Result (Vec ℕ) CppFault) → now ≡ before → StopCount before now (output_or_fault made)
told_counts before now (Ok output) e = e
told_counts before now (Err fault) e = e

stored : (headers : Texts) (name : List ℕ) (source : Result (List ℕ) Answer) (error : StoreError) → ComesToOutput headers name source (Err (store_answer error))
stored headers name source store.Failed = tt
stored headers name source store.NoMemory = tt

pub output-stored : (first : Option Told) (name text : List ℕ) (error : StoreError) → IfSome first (λ t. ComesToOutput (headers_of t.files) name (Ok text) (Err (store_answer error)))
output-stored None name text error = tt
output-stored (Some t) name text error = stored (headers_of t.files) name (Ok text) error

pub output-wanted : (first : Option Told) (name text : List ℕ) → IfSome first (λ t. ComesToOutput (headers_of t.files) name (Ok text) (Err NoMemory))
output-wanted None name text = tt
output-wanted (Some t) name text = tt

stop_is : (headers : Texts) (name : List ℕ) (answer : Answer) (source : Result (List ℕ) Answer) → source ≡ Err answer → IsStopOf headers name source answer
stop_is headers name answer source e = subst (λ (s : Result (List ℕ) Answer). IsStopOf headers name s answer) (sym e) refl

stops_over : (headers : Texts) (name : List ℕ) (answer : Answer) (source : Result (List ℕ) Answer) → StopsAs answer source → ComesToOutput headers name source (Err answer)
stops_over headers name StoreFault source h = tt
stops_over headers name NoMemory source h = tt
stops_over headers name _ source h = stop_is headers name _ source h

-- the source is absent
pub source-stops : (first : Option Told) (name : List ℕ) (answer : Answer) → IfSome first (λ t. StopsAs answer (needed_source t.files name))
    → IfSome first (λ t. ComesToOutput (headers_of t.files) name (needed_source t.files name) (Err answer))
source-stops None name answer h = tt
source-stops (Some t) name answer h = stops_over (headers_of t.files) name answer (needed_source t.files name) h

-- it was read, and the store tells what it told
pub source-goes : (first now : Option Told) (name text : List ℕ) (result : Result (Vec ℕ) Answer) → Keeps first now → IfSome first (λ t. needed_source t.files name ≡ Ok text)
    → IfSome now (λ t. ComesToOutput (headers_of t.files) name (Ok text) result) → IfSome first (λ t. ComesToOutput (headers_of t.files) name (needed_source t.files name) result)
source-goes None now name text result same e h = tt
source-goes (Some t) now name text result same e h =
    let P : Option Told → Type 0 = λ o. IfSome o (λ u. ComesToOutput (headers_of u.files) name (Ok text) result) in
    subst (λ (s : Result (List ℕ) Answer). ComesToOutput (headers_of t.files) name s result) (sym e) (subst P same h)

pub file_stop_is : (answer : Answer) → IsFileStop answer → IsCppStop answer
file_stop_is StoreFault h = tt
file_stop_is NoMemory h = tt
file_stop_is (BadFile name at) h = tt
file_stop_is _ h = absurd h

-- ---- the command

-- a source has one output
abbrev pub HaveOne : Type 0
HaveOne = (files : Texts) (name : List ℕ) (answer other : Output) → PreprocessesFile files name answer → PreprocessesFile files name other → answer ≡ other

alone : HaveOne → (headers : Texts) (name text input : List ℕ) (output : Output) → ComesBy headers name text output → (e : Effect) → CppOver headers name (Ok text) input e → e ≡ effect_of name output input
alone one headers name text input output h e (other, k, is) =
    is ∙ ap (λ (o : Output). effect_of name o input) (one (files_with headers name text) (source_name name) other output k h)

over_put : HaveOne → (headers : Texts) (name : List ℕ) (source : Result (List ℕ) Answer) (bytes : List ℕ) (answer : Answer) (told : Told) (new : Option Told) (input : List ℕ) → IsOutputOf headers name source bytes → IsPutAnswer answer
    → PutsFiles ((text_name name, bytes) ∷ []) answer told new → Obeys (CppOver headers name source input) answer told new
over_put one headers name (Ok text) bytes answer told new input is h puts =
    obeys_one (CppOver headers name (Ok text) input) (puts_files ((text_name name, bytes) ∷ []) input) answer told new (Ok bytes, is, refl) (alone one headers name text input (Ok bytes) is) (put_answers answer h) puts
over_put one headers name (Err refusal) bytes answer told new input is h puts = absurd is

-- the output was put, as far as the store put it
pub obeys-put : HaveOne → (first now new : Option Told) (name bytes : List ℕ) (answer : Answer) → IfSome first (λ t. IsOutputOf (headers_of t.files) name (needed_source t.files name) bytes) → Keeps first now
    → IfSome now (λ t. PutsFiles ((text_name name, bytes) ∷ []) answer t new) → IsPutAnswer answer → IfSome first (λ t. (input : List ℕ) → Obeys (CppEffect t.files name input) answer t new)
obeys-put one None now new name bytes answer is same puts h = tt
obeys-put one (Some told) now new name bytes answer is same puts h =
    let P : Option Told → Type 0 = λ o. IfSome o (λ t. PutsFiles ((text_name name, bytes) ∷ []) answer t new) in
    λ input. over_put one (headers_of told.files) name (needed_source told.files name) bytes answer told new input is h (subst P same puts)

stop_answers : (answer : Answer) → IsCppStop answer → Answers answer answer
stop_answers (Cpp fault) h = refl
stop_answers StoreFault h = tt
stop_answers NoMemory h = tt
stop_answers (BadFile name at) h = refl
stop_answers _ h = absurd h

over_answered : HaveOne → (headers : Texts) (name : List ℕ) (source : Result (List ℕ) Answer) (answer : Answer) (told : Told) (new : Option Told) (input : List ℕ) → IsCppStop answer → IsStopOf headers name source answer → new ≡ Some told
    → Obeys (CppOver headers name source input) answer told new
over_answered one headers name (Ok text) answer told new input h (f, comes, is) e =
    subst (λ (a : Answer). Obeys (CppOver headers name (Ok text) input) a told new) (sym is)
    (obeys_one (CppOver headers name (Ok text) input) (answers_alone (Cpp (cpp_fault f)) input) (Cpp (cpp_fault f)) told new (Err f, comes, refl) (alone one headers name text input (Err f) comes) refl e)
over_answered one headers name (Err wanted) answer told new input h is e =
    obeys_one (CppOver headers name (Err wanted) input) (answers_alone wanted input) answer told new refl (λ x d. d) (subst (λ (a : Answer). Answers a answer) is (stop_answers answer h)) (puts_none answer told new e)

over_stopped : HaveOne → (headers : Texts) (name : List ℕ) (source : Result (List ℕ) Answer) (answer : Answer) (told : Told) (new : Option Told) (input : List ℕ) → IsCppStop answer → ComesToOutput headers name source (Err answer) → new ≡ Some told
    → Obeys (CppOver headers name source input) answer told new
over_stopped one headers name source StoreFault told new input h is e = obeys_fault (CppOver headers name source input) told new e
over_stopped one headers name source NoMemory told new input h is e = obeys_no_memory (CppOver headers name source input) told new e
over_stopped one headers name source _ told new input h is e = over_answered one headers name source _ told new input h is e

pub obeys-stopped : HaveOne → (first new : Option Told) (name : List ℕ) (answer : Answer)
    → IfSome first (λ t. ComesToOutput (headers_of t.files) name (needed_source t.files name) (Err answer)) → Keeps first new → IsCppStop answer
    → IfSome first (λ t. (input : List ℕ) → Obeys (CppEffect t.files name input) answer t new)
obeys-stopped one None new name answer is same h = tt
obeys-stopped one (Some told) new name answer is same h =
    λ input. over_stopped one (headers_of told.files) name (needed_source told.files name) answer told new input h is same

pub stop_is_answer : (answer : Answer) → IsCppStop answer → IsCppAnswer answer
stop_is_answer (Cpp fault) h = h
stop_is_answer StoreFault h = tt
stop_is_answer NoMemory h = tt
stop_is_answer (BadFile name at) h = tt
stop_is_answer _ h = absurd h

pub put_is_answer : (answer : Answer) → IsPutAnswer answer → IsCppAnswer answer
put_is_answer Done h = tt
put_is_answer StoreFault h = tt
put_is_answer NoMemory h = tt
put_is_answer _ h = absurd h
