-- A source that stands behind headers is one of the files.
use Rattle.std.proofs.Common.{◌≡◌, ℕ, ◌+◌, Bool, true, false, if◌then◌else◌, List, [], ◌∷◌, ◌++◌, length, map, Option, Some, None, Result, Err, ⊎_elim, refl, sym, ap, ◌∙◌, ◌≢◌, subst, bytes_eq}
use Rattle.std.specs.Global.{Vec}
use Rattle.std.proofs.lemmas.List.{map-append}
use Rattle.std.proofs.lemmas.Slice.Eq.{bytes_eq-Decides}
use Rattle.pw_cpp.specs.Answers.{AnswersCpp, PreprocessesFile}
use Rattle.pw_cpp.specs.declared.fault.CppFault.{CppFault}
use Rattle.pw_cpp_directives.specs.declared.fault.CppKind.TheVariants as kind
use Rattle.pw_cpp_sources.specs.Sources.{File, IsThere, Texts, file_named, spans_behind, texts_of}
use Rattle.pw_store_sources.specs.Names.{source_name}
use Rattle.pw_store_sources.specs.Outputs.{ComesBy, files_with}

-- a file is chosen, or one of the rest
abbrev IsChosen : Bool → File → Option File → Type 0
IsChosen b file rest = (chosen : File) × ((if b then Some file else rest) ≡ Some chosen)

first : (b : Bool) (file : File) (rest : Option File) → b ≡ true → IsChosen b file rest
first true file rest e = (file, refl)
first false file rest e = cc

further : (b : Bool) (file : File) (rest : Option File) → (chosen : File) × (rest ≡ Some chosen) → IsChosen b file rest
further true file rest h = (file, refl)
further false file rest h = h

there : (before : ℕ) (texts : Texts) (name text : List ℕ) → (file : File) × (file_named (spans_behind before (texts ++ (name, text) ∷ [])) name ≡ Some file)
there before [] name text = first (bytes_eq name name) (record { name = name; from = before + 1; end = before + 1 + length text }) None ((bytes_eq-Decides name name).1 refl)
there before (other ∷ texts) name text =
    further (bytes_eq name other.0) (record { name = other.0; from = before + 1; end = before + 1 + length other.1 })
    (file_named (spans_behind (before + 1 + length other.1) (texts ++ (name, text) ∷ [])) name)
    (there (before + 1 + length other.1) texts name text)

-- what preprocessing answers of a source that was put behind headers
pub source-preprocessed : (headers files : List (List ℕ × Vec ℕ)) (own file name : List ℕ) (text : Vec ℕ) (result : Result (Vec ℕ) CppFault)
    → files ≡ headers ++ (own, text) ∷ [] → own ≡ file → file ≡ source_name name
    → (IsThere (texts_of files) file → AnswersCpp (texts_of files) file result)
    → AnswersCpp (files_with (texts_of headers) name text.items) (source_name name) result
source-preprocessed headers files own file name text result e o s h =
    let are : texts_of files ≡ files_with (texts_of headers) name text.items =
    ap texts_of e ∙ map-append (λ f. (f.0, f.1.items)) headers ((own, text) ∷ []) ∙ ap (λ n. texts_of headers ++ (n, text.items) ∷ []) (o ∙ s) in
    let P : Texts → List ℕ → Type 0 = λ texts n. IsThere texts n → AnswersCpp texts n result in
    subst (λ texts. P texts (source_name name)) are (subst (P (texts_of files)) s h) (there 4 (texts_of headers) (source_name name) text.items)

-- a fault of the text, which is none for want of memory
pub source-faulted : (headers files : List (List ℕ × Vec ℕ)) (own file name : List ℕ) (text : Vec ℕ) (fault found : CppFault)
    → files ≡ headers ++ (own, text) ∷ [] → own ≡ file → file ≡ source_name name
    → (IsThere (texts_of files) file → AnswersCpp (texts_of files) file (Err fault)) → found ≡ fault → found.kind ≢ kind.NoMemory
    → ComesBy (texts_of headers) name text.items (Err (found.kind, found.file, found.line))
source-faulted headers files own file name text fault found e o s h same proper =
    let P : CppFault → Type 0 = λ f. AnswersCpp (files_with (texts_of headers) name text.items) (source_name name) (Err f) in
    ⊎_elim {C = PreprocessesFile (files_with (texts_of headers) name text.items) (source_name name) (Err (found.kind, found.file, found.line))}
    (λ k. absurd (proper k)) (λ c. c)
    (subst P (sym same) (source-preprocessed headers files own file name text (Err fault) e o s h))
