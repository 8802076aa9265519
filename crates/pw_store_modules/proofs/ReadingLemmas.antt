-- Reading modules, one after another.
use Rattle.std.proofs.Common.{◌≡◌, ℕ, zero, suc, List, [], ◌∷◌, ◌++◌, length, map, take, Option, Some, None, refl, sym, ap, ◌∙◌, subst, append_assoc}
use Rattle.std.specs.Prelude.{IfSome, option_to_list}
use Rattle.std.specs.Option.{option_map}
use Rattle.std.specs.List.{cons_option}
use Rattle.std.proofs.lemmas.List.{length-map}
use Rattle.std.specs.FinMap as finite
use Rattle.pw_io.specs.Files.{Files, Told, Keeps, prefix_of}
use Rattle.pw_store_modules.specs.Modules.{Source, modules_of, stem}
use Rattle.pw_store_modules.specs.Reading.{source_of, sources_of, module_files}
use Rattle.pw_store_modules.proofs.Order.{read_in_order, names_in_order}

take_take_same : (n : ℕ) (xs : List ℕ) → take n (take n xs) ≡ take n xs
take_take_same zero xs = refl
take_take_same (suc n) [] = refl
take_take_same (suc n) (x ∷ xs) = ap (λ ys. x ∷ ys) (take_take_same n xs)

front_of_front : (n : ℕ) (bytes : List ℕ) → take n (prefix_of n bytes) ≡ prefix_of n bytes
unfolding prefix_of
front_of_front n bytes = take_take_same n bytes

-- a text that was read and cut is the module's
pub read_and_cut : (most : ℕ) (o : Option (List ℕ)) (text cut name own : List ℕ) → Some text ≡ option_map (prefix_of most) o → cut ≡ take most text → name ≡ own → ◌≡◌ {A = Option Source} (Some (name, cut)) (option_map (λ t. (own, prefix_of most t)) o)
read_and_cut most None text cut name own e f g = cc
read_and_cut most (Some t) text cut name own e f g =
    let same : text ≡ prefix_of most t = cc in
    let whole : cut ≡ prefix_of most t = f ∙ ap (take most) same ∙ front_of_front most t in
    let P : List ℕ → List ℕ → Option Source = λ n c. Some (n, c) in ap (λ n. P n cut) g ∙ ap (P own) whole

joined : (o : Option Source) (sources : List Source) → cons_option o sources ≡ option_to_list o ++ sources
joined None sources = refl
joined (Some s) sources = refl

-- the sources of one more file
pub sources_more : (files : Files) (file : List ℕ) (rest : List (List ℕ)) → sources_of files (file ∷ rest) ≡ option_to_list (source_of files file) ++ sources_of files rest
sources_more files file rest = joined (source_of files file) (sources_of files rest)

-- the modules so far with one more, before those that are left
pub sources_step : (files : Files) (file : List ℕ) (rest left : List (List ℕ)) (old new all : List Source) → old ++ sources_of files left ≡ all → left ≡ file ∷ rest → new ≡ old ++ option_to_list (source_of files file) → new ++ sources_of files rest ≡ all
sources_step files file rest left old new all inv e f =
    ap (λ xs. xs ++ sources_of files rest) f ∙ append_assoc old (option_to_list (source_of files file)) (sources_of files rest)
    ∙ ap (λ xs. old ++ xs) (sym (sources_more files file rest) ∙ ap (sources_of files) (sym e)) ∙ inv

-- the store tells as before through two calls
pub keeps_on : (first now later : Option Told) → Keeps first now → Keeps now later → Keeps first later
keeps_on None now later h k = tt
keeps_on (Some told) now later h k = let P : Option Told → Type 0 = λ o. Keeps o later in subst P h k

-- the step of a loop over files, at a store that tells the same in each turn
pub sources_turn : (first now : Option Told) (file : List ℕ) (names rest left : List (List ℕ)) (old new : List Source) →
    IfSome first (λ told. old ++ sources_of told.files left ≡ sources_of told.files names) → Keeps first now
    → IfSome now (λ told. new ≡ old ++ option_to_list (source_of told.files file)) → left ≡ file ∷ rest
    → IfSome first (λ told. new ++ sources_of told.files rest ≡ sources_of told.files names)
sources_turn None now file names rest left old new inv same read e = tt
sources_turn (Some told) now file names rest left old new inv same read e =
    let P : Option Told → Type 0 = λ o. IfSome o (λ t. new ≡ old ++ option_to_list (source_of t.files file)) in
    sources_step told.files file rest left old new _ inv e (subst P same read)

-- the files of the modules, by the names of all files: their sources are the modules
pub sources_in_order : (files : Files) (all found : List (List ℕ)) → all ≡ finite.keys files → found ≡ module_files all → sources_of files found ≡ modules_of files
sources_in_order files all found e f = ap (sources_of files) (f ∙ ap module_files e) ∙ read_in_order files

-- and they are as many
pub count_in_order : (files : Files) (all found : List (List ℕ)) → all ≡ finite.keys files → found ≡ module_files all → length found ≡ length (modules_of files)
count_in_order files all found e f =
    sym (length-map found stem) ∙ ap length (ap (map stem) (f ∙ ap module_files e) ∙ names_in_order files) ∙ length-map (modules_of files) (λ s. s.0)
