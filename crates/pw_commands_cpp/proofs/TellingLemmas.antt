-- What is told of a refused module, by the bytes of the texts and by what came of its C source.
use Rattle.std.proofs.Common.{◌≡◌, ℕ, ◌<◌, ◌≤◌, Bool, true, false, if◌then◌else◌, List, Option, Some, None, Ok, Err, refl, sym, ap, ◌∙◌, subst, arith}
use Rattle.std.specs.Prelude.{IfSome, IsSomeAnd, nat_lt}
use Rattle.std.proofs.lemmas.Bool.Decides.{nat_tests}
use Rattle.std.specs.Global.{Vec}
use Rattle.std.specs.Option.{option_map}
use Rattle.std.specs.FinMap as finite
use Rattle.pw_cpp.specs.Answers.{PreprocessesFile}
use Rattle.pw_cpp.specs.declared.fault.CppFault.{CppFault}
use Rattle.pw_cpp_sources.specs.Sources.{Texts}
use Rattle.pw_front_end.specs.declared.refusal.Refusal.{Refusal}
use Rattle.pw_io.specs.Files.{Files, Told, Keeps, prefix_of}
use Rattle.pw_store_modules.specs.Modules.{is_module_name, text_read}
use Rattle.pw_store_texts.specs.Bytes.{is_crowded, text_bytes}
use Rattle.pw_store_texts.specs.Headers.{headers_of}
use Rattle.pw_store_texts.specs.Names.{source_name}
use Rattle.pw_store_texts.specs.Outputs.{ComesBy, Output, files_with}
use Rattle.pw_top_answer.specs.declared.answer.Answer.{Answer}
use Rattle.pw_top_answer.specs.declared.answer.Answer.TheVariants.{Refused, RefusedSource, Cpp, LinkRefused, StoreFault, NoMemory}
use Rattle.pw_value.specs.Limits.{texts_limit}
use Rattle.pw_value.specs.declared.fault.LinkFault.TheVariants.{TooMany}
use Rattle.pw_value.specs.declared.fault.What.TheVariants.{TextBytes}
use Rattle.pw_commands_cpp.specs.Telling.{ComesOf, IsToldAnswer, TellsAnswer, TellsBy, TellsCompiled, TellsOrFails, TellsRefusal, TellsWhere, source_at, told_of, too_many_bytes}

-- ---- what came of the source

pub came_none : (first : Option Told) (file name : List ℕ) → file ≡ source_name name
    → IfSome first (λ t. ◌≡◌ {A = Option (List ℕ)} None (option_map (prefix_of text_read) (finite.get t.files file))) → IfSome first (λ t. ComesOf t.files name None)
came_none None file name e h = tt
came_none (Some t) file name e h =
    let P : List ℕ → Type 0 = λ f. ◌≡◌ {A = Option (List ℕ)} None (option_map (prefix_of text_read) (finite.get t.files f)) in
    gone (finite.get t.files (source_name name)) (subst P e h)
  where
    gone : (o : Option (List ℕ)) → ◌≡◌ {A = Option (List ℕ)} None (option_map (prefix_of text_read) o) → o ≡ None
    gone None h = refl
    gone (Some text) h = cc

read_by : (headers : Texts) (name items : List ℕ) (output : Output) (o : Option (List ℕ)) → Some items ≡ option_map (prefix_of text_read) o → ComesBy headers name items output → IsSomeAnd o (λ text. ComesBy headers name (prefix_of text_read text) output)
read_by headers name items output None e h = cc
read_by headers name items output (Some text) e h =
    let same : items ≡ prefix_of text_read text = cc in
    subst (λ (x : List ℕ). ComesBy headers name x output) same h

pub came_some : (first second : Option Told) (file name items : List ℕ) (headers : Texts) (output : Output) → file ≡ source_name name
    → IfSome first (λ t. Some items ≡ option_map (prefix_of text_read) (finite.get t.files file)) → Keeps first second → IfSome second (λ t. headers ≡ headers_of t.files) → ComesBy headers name items output
    → IfSome first (λ t. IsSomeAnd (finite.get t.files (source_name name)) (λ text. ComesBy (headers_of t.files) name (prefix_of text_read text) output))
came_some None second file name items headers output e h k l comes = tt
came_some (Some t) second file name items headers output e h k l comes =
    let P : List ℕ → Type 0 = λ f. Some items ≡ option_map (prefix_of text_read) (finite.get t.files f) in
    let Q : Option Told → Type 0 = λ o. IfSome o (λ u. headers ≡ headers_of u.files) in
    read_by (headers_of t.files) name items output (finite.get t.files (source_name name)) (subst P e h) (subst (λ (hs : Texts). ComesBy hs name items output) (subst Q k l) comes)

-- ---- what is told

by_none : (headers : Texts) (name : List ℕ) (refusal : Refusal) (b : Bool) (o : Option (List ℕ)) → o ≡ None → TellsBy headers name refusal (if b then option_map (prefix_of text_read) o else None) (Refused name refusal)
by_none headers name refusal true None e = refl
by_none headers name refusal true (Some text) e = cc
by_none headers name refusal false o e = refl

by_unnamed : (headers : Texts) (name : List ℕ) (refusal : Refusal) (b : Bool) (o : Option (List ℕ)) → b ≡ false → TellsBy headers name refusal (if b then option_map (prefix_of text_read) o else None) (Refused name refusal)
by_unnamed headers name refusal true o e = cc
by_unnamed headers name refusal false o e = refl

by_source : (headers : Texts) (name : List ℕ) (refusal : Refusal) (output : Output) (b : Bool) (o : Option (List ℕ)) → b ≡ true → IsSomeAnd o (λ text. ComesBy headers name (prefix_of text_read text) output)
    → TellsBy headers name refusal (if b then option_map (prefix_of text_read) o else None) (told_of name refusal output)
by_source headers name refusal output true None e h = absurd h
by_source headers name refusal output true (Some text) e h = (output, h, refl)
by_source headers name refusal output false o e h = cc

-- a name that no module has
pub tells_unnamed : (first : Option Told) (name : List ℕ) (refusal : Refusal) → is_module_name name ≡ false → IfSome first (λ t. TellsCompiled t.files name refusal (Refused name refusal))
tells_unnamed None name refusal e = tt
tells_unnamed (Some t) name refusal e = by_unnamed (headers_of t.files) name refusal (is_module_name name) (finite.get t.files (source_name name)) e

-- a module that has no C source
pub tells_none : (first : Option Told) (name : List ℕ) (refusal : Refusal) → IfSome first (λ t. ComesOf t.files name None) → IfSome first (λ t. TellsCompiled t.files name refusal (Refused name refusal))
tells_none None name refusal h = tt
tells_none (Some t) name refusal h = by_none (headers_of t.files) name refusal (is_module_name name) (finite.get t.files (source_name name)) h

-- one that has one
pub tells_output : (first : Option Told) (name : List ℕ) (refusal : Refusal) (output : Vec ℕ) → is_module_name name ≡ true → IfSome first (λ t. ComesOf t.files name (Some (Ok output))) → IfSome first (λ t. TellsCompiled t.files name refusal (RefusedSource name refusal))
tells_output None name refusal output e h = tt
tells_output (Some t) name refusal output e h = by_source (headers_of t.files) name refusal (Ok output.items) (is_module_name name) (finite.get t.files (source_name name)) e h

pub tells_fault : (first : Option Told) (name : List ℕ) (refusal : Refusal) (fault : CppFault) → is_module_name name ≡ true → IfSome first (λ t. ComesOf t.files name (Some (Err fault))) → IfSome first (λ t. TellsCompiled t.files name refusal (Cpp fault))
tells_fault None name refusal fault e h = tt
tells_fault (Some t) name refusal fault e h = by_source (headers_of t.files) name refusal (Err (fault.kind, fault.file, fault.line)) (is_module_name name) (finite.get t.files (source_name name)) e h

-- ---- where the texts are more bytes than there may be, and where they are not

is_crowd : (n : ℕ) → texts_limit < n → nat_lt texts_limit n ≡ true
is_crowd n h = grind (arith, nat_tests, h)

no_crowd : (n : ℕ) → n ≤ texts_limit → nat_lt texts_limit n ≡ false
no_crowd n h = grind (arith, nat_tests, h)

many_by : (b : Bool) (files : Files) (name : List ℕ) (refusal : Refusal) (told : Answer) → b ≡ true → told ≡ too_many_bytes files → TellsWhere b files name refusal told
many_by true files name refusal told e h = h
many_by false files name refusal told e h = cc

pub tells_many : (first : Option Told) (name : List ℕ) (refusal : Refusal) (bytes : ℕ) → IfSome first (λ t. bytes ≡ text_bytes t.files) → texts_limit < bytes → IfSome first (λ t. TellsRefusal t.files name refusal (LinkRefused (TooMany TextBytes bytes)))
tells_many None name refusal bytes h l = tt
tells_many (Some t) name refusal bytes h l =
    many_by (is_crowded t.files) t.files name refusal (LinkRefused (TooMany TextBytes bytes)) (is_crowd (text_bytes t.files) (subst (λ (n : ℕ). texts_limit < n) h l)) (ap (λ (n : ℕ). LinkRefused (TooMany TextBytes n)) h)

few_by : (b : Bool) (files : Files) (name : List ℕ) (refusal : Refusal) (told : Answer) → b ≡ false → TellsBy (headers_of files) name refusal (source_at files name) told → TellsWhere b files name refusal told
few_by true files name refusal told e h = cc
few_by false files name refusal told e h = h

by_compiled : (files : Files) (name : List ℕ) (refusal : Refusal) (told : Answer) → is_crowded files ≡ false → TellsCompiled files name refusal told → TellsRefusal files name refusal told
by_compiled files name refusal StoreFault e h = tt
by_compiled files name refusal NoMemory e h = tt
by_compiled files name refusal told e h = few_by (is_crowded files) files name refusal told e h

pub tells_few : (first second : Option Told) (name : List ℕ) (refusal : Refusal) (bytes : ℕ) (told : Answer) → IfSome first (λ t. bytes ≡ text_bytes t.files) → bytes ≤ texts_limit → Keeps first second
    → IfSome second (λ t. TellsCompiled t.files name refusal told) → IfSome first (λ t. TellsRefusal t.files name refusal told)
tells_few None second name refusal bytes told h l k c = tt
tells_few (Some t) second name refusal bytes told h l k c =
    let P : Option Told → Type 0 = λ o. IfSome o (λ u. TellsCompiled u.files name refusal told) in
    by_compiled t.files name refusal told (no_crowd (text_bytes t.files) (subst (λ (n : ℕ). n ≤ texts_limit) h l)) (subst P k c)

-- every other answer is told as it is
abbrev pub IsNoRefused : Answer → Type 0
IsNoRefused answer = (name : List ℕ) (refusal : Refusal) → answer ≡ Refused name refusal → ⊥

other_is : (files : Files) (answer : Answer) → IsNoRefused answer → TellsOrFails files answer answer
other_is files (Refused name refusal) not = absurd (not name refusal refl)
other_is files _ not = refl

pub tells_other : (first : Option Told) (answer : Answer) → IsNoRefused answer → IfSome first (λ t. TellsOrFails t.files answer answer)
tells_other None answer not = tt
tells_other (Some t) answer not = other_is t.files answer not

pub told_other : (answer : Answer) → IsNoRefused answer → IsToldAnswer answer answer
told_other (Refused name refusal) not = absurd (not name refusal refl)
told_other _ not = refl

-- ---- in one way

abbrev pub HaveOne : Type 0
HaveOne = (files : Texts) (name : List ℕ) (answer other : Output) → PreprocessesFile files name answer → PreprocessesFile files name other → answer ≡ other

told_by : HaveOne → (headers : Texts) (name : List ℕ) (refusal : Refusal) (source : Option (List ℕ)) (told other : Answer) → TellsBy headers name refusal source told → TellsBy headers name refusal source other → told ≡ other
told_by one headers name refusal None told other h k = h ∙ sym k
told_by one headers name refusal (Some text) told other h k =
    h.2 ∙ ap (told_of name refusal) (one (files_with headers name text) (source_name name) h.0 k.0 h.1 k.1) ∙ sym k.2

told_where : HaveOne → (b : Bool) (files : Files) (name : List ℕ) (refusal : Refusal) (told other : Answer) → TellsWhere b files name refusal told → TellsWhere b files name refusal other → told ≡ other
told_where one true files name refusal told other h k = h ∙ sym k
told_where one false files name refusal told other h k = told_by one (headers_of files) name refusal (source_at files name) told other h k

pub told_once : HaveOne → (files : Files) (answer told other : Answer) → TellsAnswer files answer told → TellsAnswer files answer other → told ≡ other
told_once one files (Refused name refusal) told other h k = told_where one (is_crowded files) files name refusal told other h k
told_once one files _ told other h k = h ∙ sym k
