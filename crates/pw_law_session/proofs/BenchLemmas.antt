-- Nothing is kept of the texts that `bench` makes.
use Rattle.std.proofs.Common.{◌≡◌, ◌≢◌, ℕ, List, [], ◌∷◌, ◌++◌, codes, map, reverse, Option, None, Some, Result, refl, sym, ap, subst, ◌∙◌, arith}
use Rattle.std.specs.List.{AllByRecursion, range_with_len}
use Rattle.std.specs.Ordering.{nat_cmp}
use Rattle.std.specs.Cmp.Lexicographic.{slice_cmp}
use Rattle.std.specs.Fmt.{decimal}
use Rattle.std.specs.FinMap as finite
use Rattle.std.specs.FinMap.{get-empty}
use Rattle.std.proofs.lemmas.List.{reverse-append}
use Rattle.pw_io.specs.Files.{Files}
use Rattle.pw_store_modules.specs.FileNames.{text_ending, object_ending, text_name, object_name}
use Rattle.pw_store_modules.specs.Modules.{module_map}
use Rattle.pw_top_answer.specs.Effects.{Effect}
use Rattle.pw_gen.specs.Generator.{generated, main_text, module_file, module_of}
use Rattle.pw_session.specs.FromBuild.BuildFault.{BuildFault}
use Rattle.pw_session.specs.FromBuildFiles.Building.{BuildOutcome, Outcome, counted, object_in}
use Rattle.pw_session.specs.FromBuildFiles.Full.{image_of}
use Rattle.pw_law_meaning.specs.Meaning.{BuildsAndMeans}
use Rattle.pw_session.specs.FromBuildFiles.Genuine.{KeepsGenuine}
use Rattle.pw_session.specs.FromBuildFiles.Outcomes.{AreOpts}
use Rattle.pw_build_opts.specs.declared.opts.RunOpts.{RunOpts}
use Rattle.pw_session.specs.Bench.{BenchEffect, bench_files, bench_modules, made_files}
use Rattle.pw_law_session.specs.Full.{BenchBuildsInFull}
use Rattle.pw_law_session.proofs.FullLemmas.{opened}
use Rattle.pw_law_session.proofs.SeenLemmas.{Beside, keeps_seen}
use Rattle.pw_build_opts.specs.declared.opts.Opts.{Opts}

-- ---- names of texts and of objects' files

-- the name ends as that of a module's text
abbrev IsTextName : List ℕ → Type 0
IsTextName name = (stem : List ℕ) × (name ≡ text_name stem)

first_of : List ℕ → ℕ
first_of [] = 0
first_of (x ∷ xs) = x

no_object : (file name : List ℕ) → IsTextName file → object_name name ≢ file
unfolding first_of
no_object file name is e =
    let last : 106 ≡ 105 = ap first_of (sym (reverse-append name object_ending) ∙ ap reverse (e ∙ is.1) ∙ reverse-append is.0 text_ending) in
    omega (arith, last)

-- ---- the files that are made

abbrev AreTexts : List (List ℕ × List ℕ) → Type 0
AreTexts entries = AllByRecursion (λ (e : List ℕ × List ℕ). IsTextName e.0) entries

behind : (xs ys : List (List ℕ × List ℕ)) → AreTexts xs → AreTexts ys → AreTexts (xs ++ ys)
behind [] ys a b = b
behind (x ∷ xs) ys a b = (a.0, behind xs ys a.1 b)

turned : (xs : List (List ℕ × List ℕ)) → AreTexts xs → AreTexts (reverse xs)
turned [] h = tt
turned (x ∷ xs) h = subst AreTexts (sym (reverse-append (x ∷ []) xs)) (behind (reverse xs) (x ∷ []) (turned xs h.1) (h.0, tt))

one_text : (k : ℕ) → IsTextName (module_file k)
unfolding module_file
one_text k = (109 ∷ decimal k, refl)

module_texts : (number count : ℕ) (ks : List ℕ) → AreTexts (map (module_of number count) ks)
module_texts number count [] = tt
module_texts number count (k ∷ ks) = (one_text k, module_texts number count ks)

all_texts : (number count : ℕ) → AreTexts (generated number count)
all_texts number count = behind (map (module_of number count) (range_with_len 0 count)) ((codes "main.i", main_text) ∷ []) (module_texts number count (range_with_len 0 count)) ((codes "main", refl), tt)

-- ---- no object is kept

none_there : ((files : Files) (name bytes other : List ℕ) → other ≢ name → finite.get (finite.insert files name bytes) other ≡ finite.get files other)
    → (entries : List (List ℕ × List ℕ)) (name : List ℕ) → AreTexts entries → finite.get (finite.from_entries {R = slice_cmp nat_cmp} entries) (object_name name) ≡ None
none_there insertion [] name h = get-empty (slice_cmp nat_cmp) (object_name name)
none_there insertion (e ∷ es) name h = insertion (finite.from_entries es) e.0 e.1 (object_name name) (no_object e.0 name h.0) ∙ none_there insertion es name h.1

none_is : {X : Type 0} (x : X) → ◌≡◌ {A = Option X} None (Some x) → ⊥
none_is x e = cc

made_genuine : ((files : Files) (name bytes other : List ℕ) → other ≢ name → finite.get (finite.insert files name bytes) other ≡ finite.get files other) → (number count : ℕ) → KeepsGenuine (made_files number count)
unfolding made_files
made_genuine insertion number count name object spelled e =
    let none : finite.get (finite.from_entries {R = slice_cmp nat_cmp} (reverse (generated number count))) (object_name name) ≡ None =
    none_there insertion (reverse (generated number count)) name (turned (generated number count) (all_texts number count)) in
    absurd (none_is object (sym (ap (λ (bytes : Option (List ℕ)). object_in (counted bytes)) none) ∙ e))

pub bench_in_full : Beside → ((files : Files) (opts : Opts) (comes : Result Outcome BuildFault) → AreOpts opts → KeepsGenuine files → BuildOutcome files opts comes → BuildsAndMeans (module_map files) opts (image_of comes))
    → ((files : Files) (name bytes other : List ℕ) → other ≢ name → finite.get (finite.insert files name bytes) other ≡ finite.get files other)
    → (number : ℕ) (opts : RunOpts) (input : List ℕ) (effect : Effect) → AreOpts opts.build → BenchEffect number opts input effect → BenchBuildsInFull number opts input effect
bench_in_full beside full insertion number opts input effect are h =
    let keeps : KeepsGenuine (bench_files number) = made_genuine insertion number bench_modules in
    let seen = opened opts (bench_files number) h.0 h.1 in
    (h.0, seen.0, seen.1, full seen.0 opts.build h.0 are (keeps_seen beside (bench_files number) seen.0 seen.1 keeps) seen.2, h.2)
