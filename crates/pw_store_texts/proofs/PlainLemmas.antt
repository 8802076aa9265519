-- The modules that stand in files `NAME.i`, and with them all modules as a build sees them.
use Rattle.std.proofs.Common.{◌≡◌, ℕ, ◌+◌, ◌<◌, List, [], length, map, Option, Some, None, Result, Ok, Err, refl, sym, ap, ◌∙◌, subst, arith}
use Rattle.std.specs.Prelude.{IfSome}
use Rattle.std.specs.Global.{Vec}
use Rattle.std.specs.FinMap as finite
use Rattle.pw_io.specs.Files.{Files, Keeps, Told}
use Rattle.pw_io.specs.declared.StoreError.{StoreError}
use Rattle.pw_store_modules.specs.Few.{HasModulesCause}
use Rattle.pw_store_modules.specs.Modules.{Source, modules_of}
use Rattle.pw_store_modules.specs.Reading.{sources_of}
use Rattle.pw_store_modules.specs.Views.{source}
use Rattle.pw_store_modules.specs.declared.few.ModulesFault.{ModulesFault}
use Rattle.pw_store_modules.specs.declared.few.ModulesFault.TheVariants as modules
use Rattle.pw_store_modules.specs.declared.modules.Module.{Module}
use Rattle.pw_store_sources.specs.Sources.{ComeAmong, Outputs, StoreComes, preprocessed_bytes}
use Rattle.pw_store_texts.specs.Bytes.{module_bytes, text_bytes}
use Rattle.pw_store_texts.specs.Plain.{AnswersPlain}
use Rattle.pw_store_texts.specs.Seen.{AnswersPreprocessed, AnswersSeen}
use Rattle.pw_store_texts.specs.declared.plain.Plain.{Plain}
use Rattle.pw_store_texts.proofs.BytesLemmas.{text_bytes_are}
use Rattle.pw_store_texts.proofs.CrowdLemmas.{Named, many-within}
use Rattle.pw_store_texts.proofs.SeenLemmas.{answers-plain}
use Rattle.pw_value.specs.Limits.{module_limit}

-- the modules are among files that a store tells
pub plain_bytes : (told : Option Told) (names : List (List ℕ)) (sources : List Source) (bytes : ℕ) → ((files : Files) → names ≡ finite.keys files → bytes ≡ module_bytes files sources) → IfSome told (λ t. names ≡ finite.keys t.files → bytes ≡ module_bytes t.files sources)
plain_bytes None names sources bytes h = tt
plain_bytes (Some t) names sources bytes h = h t.files

abbrev OfModules : List (List ℕ) → List (List ℕ) → Type 0
OfModules names found = (files : Files) → names ≡ finite.keys files → sources_of files found ≡ modules_of files

pub modules_bytes : (told : Option Told) (names found : List (List ℕ)) (plain : Plain) → OfModules names found → IfSome told (λ t. map source plain.modules.items ≡ sources_of t.files found)
    → IfSome told (λ t. names ≡ finite.keys t.files → plain.bytes ≡ module_bytes t.files (map source plain.modules.items)) → IfSome told (λ t. names ≡ finite.keys t.files → plain.bytes ≡ module_bytes t.files (modules_of t.files))
modules_bytes None names found plain of are bytes = tt
modules_bytes (Some t) names found plain of are bytes = λ e. bytes e ∙ ap (module_bytes t.files) (are ∙ of t.files e)

pub plain_told : (told : Option Told) (names given found : List (List ℕ)) (outputs : Outputs) (plain : Plain) → given ≡ found → OfModules names found → IfSome told (λ t. map source plain.modules.items ≡ sources_of t.files given)
    → IfSome told (λ t. names ≡ finite.keys t.files → plain.bytes ≡ module_bytes t.files (map source plain.modules.items)) → IfSome told (λ t. names ≡ finite.keys t.files → AnswersPlain t.files outputs (Ok plain))
plain_told None names given found outputs plain same of are bytes = tt
plain_told (Some t) names given found outputs plain same of are bytes = λ e.
    let is : map source plain.modules.items ≡ modules_of t.files = are ∙ ap (sources_of t.files) same ∙ of t.files e in (is, bytes e ∙ ap (module_bytes t.files) is)

-- more than there may be, and no C source
pub plain_many : (told : Option Told) (names : List (List ℕ)) (outputs : Outputs) (fault : ModulesFault) (count own : ℕ) → count ≡ own → ((files : Files) → names ≡ finite.keys files → own ≡ length (modules_of files))
    → (outputs ≡ []) × (fault ≡ modules.TooMany count) × (module_limit < count) → IfSome told (λ t. names ≡ finite.keys t.files → AnswersPlain t.files outputs (Err fault))
plain_many None names outputs fault count own same is h = tt
plain_many (Some t) names outputs fault count own same is h = λ e. subst (λ (f : ModulesFault). AnswersPlain t.files outputs (Err f)) (sym h.1) (h.0, same ∙ is t.files e, h.2)

-- the store's own answer
pub plain_store : (told : Option Told) (names : List (List ℕ)) (outputs : Outputs) (fault : ModulesFault) (error : StoreError) → fault ≡ modules.Store error → IfSome told (λ t. names ≡ finite.keys t.files → AnswersPlain t.files outputs (Err fault))
plain_store None names outputs fault error h = tt
plain_store (Some t) names outputs fault error h = λ e. subst (λ (f : ModulesFault). AnswersPlain t.files outputs (Err f)) (sym h) tt

-- ---- as a build sees them

comes_all : (files : Files) (names : List (List ℕ)) (outputs : Outputs) → names ≡ finite.keys files → ComeAmong files names outputs → StoreComes files outputs
comes_all files names outputs e h = subst (λ (ns : List (List ℕ)). ComeAmong files ns outputs) e h

bytes_all : (files : Files) (names : List (List ℕ)) (bytes own : ℕ) → names ≡ finite.keys files → bytes ≡ preprocessed_bytes files names → own ≡ module_bytes files (modules_of files) → bytes + own ≡ text_bytes files
bytes_all files names bytes own e b o =
    ap (λ (n : ℕ). n + own) (b ∙ ap (preprocessed_bytes files) e) ∙ ap (λ (n : ℕ). preprocessed_bytes files (finite.keys files) + n) o ∙ sym (text_bytes_are files)

pub seen_told : (first mid : Option Told) (names : List (List ℕ)) (outputs given : Outputs) (plain : Plain) (bytes : ℕ) (result : Result (Vec Module) ModulesFault) → IfSome first (λ t. ComeAmong t.files names outputs)
    → IfSome first (λ t. bytes ≡ preprocessed_bytes t.files names) → Keeps first mid → given ≡ outputs → IfSome mid (λ t. names ≡ finite.keys t.files → AnswersPlain t.files given (Ok plain))
    → ((files : Files) → map source plain.modules.items ≡ modules_of files → StoreComes files outputs → bytes + plain.bytes ≡ text_bytes files → AnswersSeen files result)
    → IfSome first (λ t. names ≡ finite.keys t.files → AnswersSeen t.files result)
seen_told None mid names outputs given plain bytes result comes b k same h f = tt
seen_told (Some t) mid names outputs given plain bytes result comes b k same h f = λ e.
    let P : Option Told → Type 0 = λ o. IfSome o (λ u. names ≡ finite.keys u.files → AnswersPlain u.files given (Ok plain)) in
    let read : AnswersPlain t.files given (Ok plain) = subst P k h e in
    f t.files read.0 (comes_all t.files names outputs e comes) (bytes_all t.files names bytes plain.bytes e b read.1)

many_seen : Named → (files : Files) (outputs : Outputs) (fault : ModulesFault) → StoreComes files outputs → AnswersPlain files outputs (Err fault) → AnswersSeen files (Err fault)
many_seen by files outputs (modules.TooMany count) comes h = many-within by files (modules.TooMany count) (answers-plain files outputs count comes h.0 h.1 h.2)
many_seen by files outputs (modules.Store error) comes h = tt

pub many_told : Named → (first mid : Option Told) (names : List (List ℕ)) (outputs given : Outputs) (fault : ModulesFault) → IfSome first (λ t. ComeAmong t.files names outputs) → Keeps first mid → given ≡ outputs
    → IfSome mid (λ t. names ≡ finite.keys t.files → AnswersPlain t.files given (Err fault)) → IfSome first (λ t. names ≡ finite.keys t.files → AnswersSeen t.files (Err fault))
many_told by None mid names outputs given fault comes k same h = tt
many_told by (Some t) mid names outputs given fault comes k same h = λ e.
    let P : Option Told → Type 0 = λ o. IfSome o (λ u. names ≡ finite.keys u.files → AnswersPlain u.files given (Err fault)) in
    many_seen by t.files outputs fault (comes_all t.files names outputs e comes) (subst (λ (os : Outputs). AnswersPlain t.files os (Err fault)) same (subst P k h e))

-- the count of faults through a call that leaves the store alone
pub cause_on : {T : Type 0} (before now : ℕ) (result : Result T ModulesFault) → now ≡ before → ((faults : ℕ) → HasModulesCause faults faults result) → HasModulesCause before now result
cause_on before now result e h = subst (λ (n : ℕ). HasModulesCause before n result) (sym e) (h before)

-- by the names of all files
pub named_seen : (first second : Option Told) (names : List (List ℕ)) (result : Result (Vec Module) ModulesFault) → IfSome first (λ t. names ≡ finite.keys t.files) → Keeps first second
    → IfSome second (λ t. names ≡ finite.keys t.files → AnswersSeen t.files result) → IfSome first (λ t. AnswersSeen t.files result)
named_seen None second names result e k h = tt
named_seen (Some t) second names result e k h =
    let P : Option Told → Type 0 = λ o. IfSome o (λ u. names ≡ finite.keys u.files → AnswersSeen u.files result) in subst P k h e
