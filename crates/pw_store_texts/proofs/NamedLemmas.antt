-- The names of a store's modules, file by file.
use Rattle.std.proofs.Common.{◌≡◌, ℕ, zero, suc, Bool, true, false, ◌||◌, if◌then◌else◌, List, [], ◌∷◌, ◌++◌, length, map, Option, Some, None, All, refl, sym, ap, ◌∙◌, arith, append_assoc, append-nil}
use Rattle.std.specs.Prelude.{IfSome, fold, string_bytes}
use Rattle.std.specs.Ordering.{nat_cmp}
use Rattle.std.specs.Cmp.Lexicographic.{slice_cmp, nat_list_cmp_total}
use Rattle.std.specs.FinMap as finite
use Rattle.std.specs.FinMap.{entries-insert, len-empty, len-entries}
use Rattle.pw_io.specs.Files.{Files, Told}
use Rattle.pw_store_modules.specs.Modules.{Source, is_module_file, is_module_name, stem}
use Rattle.pw_store_modules.specs.Views.{source}
use Rattle.pw_store_modules.specs.declared.modules.Module.{Module}
use Rattle.pw_store_texts.specs.Named.{is_text_of_module, named_among, names_of_texts, with_entry, with_name}
use Rattle.pw_store_sources.specs.Names.{is_source_file}
use Rattle.pw_store_texts.specs.Placing.{placed}
use Rattle.pw_store_texts.proofs.BytesLemmas.{module_named}
use Rattle.pw_store_sources.proofs.HeaderLemmas.{source-named}

named_by : (a b : Bool) (P : Type 0) → (a ≡ true → P) → (b ≡ true → P) → (a || b) ≡ true → P
named_by true b P f g e = f refl
named_by false b P f g e = g e

-- the name of a text is a module's
pub text_named : (file : List ℕ) → is_text_of_module file ≡ true → is_module_name (stem file) ≡ true
text_named file e = named_by (is_source_file file) (is_module_file file) (is_module_name (stem file) ≡ true) (source-named file) (module_named file) e

-- ---- one file

put_by : (b : Bool) (old new : List Source) (name : List ℕ) → b ≡ true → new ≡ placed name [] old → new ≡ (if b then placed name [] old else old)
put_by true old new name e h = h
put_by false old new name e h = cc

pub entry_put : (file name text : List ℕ) (old new : List Source) → is_text_of_module file ≡ true → name ≡ stem file → text ≡ [] → new ≡ placed name text old → new ≡ with_entry old file
entry_put file name text old new e n t h =
    put_by (is_text_of_module file) old new (stem file) e (h ∙ ap (λ (x : List ℕ). placed x text old) n ∙ ap (λ (x : List ℕ). placed (stem file) x old) t)

none_by : (b : Bool) (old other : List Source) → b ≡ false → old ≡ (if b then other else old)
none_by true old other e = cc
none_by false old other e = refl

pub entry_none : (file : List ℕ) (old : List Source) → is_text_of_module file ≡ false → old ≡ with_entry old file
entry_none file old e = none_by (is_text_of_module file) old (placed (stem file) [] old) e

-- ---- one file after another

entry_by : (b : Bool) (named : Files) (name : List ℕ) → (if b then placed name [] (finite.entries named) else finite.entries named) ≡ finite.entries (if b then finite.insert named name [] else named)
entry_by true named name = sym (entries-insert nat_list_cmp_total named name [])
entry_by false named name = refl

entries_fold : (files : List (List ℕ)) (named : Files) → fold with_entry (finite.entries named) files ≡ finite.entries (fold with_name named files)
entries_fold [] named = refl
entries_fold (file ∷ files) named = ap (λ (s : List Source). fold with_entry s files) (entry_by (is_text_of_module file) named (stem file)) ∙ entries_fold files (with_name named file)

no_length : (sources : List Source) → length sources ≡ 0 → sources ≡ []
no_length [] e = refl
no_length (s ∷ sources) e = absurd (omega (arith, e))

none_at_first : finite.entries (finite.empty {X = List ℕ} {R = slice_cmp nat_cmp}) ≡ []
none_at_first = no_length _ (sym (len-entries (finite.empty {X = List ℕ} {R = slice_cmp nat_cmp})) ∙ len-empty (slice_cmp nat_cmp) (List ℕ))

pub names_start : (files : List (List ℕ)) (all : List Module) → all ≡ [] → fold with_entry (map source all) files ≡ finite.entries (named_among files)
names_start files all e = ap (λ (ms : List Module). fold with_entry (map source ms) files) e ∙ ap (λ (s : List Source). fold with_entry s files) (sym none_at_first) ∙ entries_fold files finite.empty

pub names_turn : (file : List ℕ) (left rest : List (List ℕ)) (old new whole : List Source) → fold with_entry old left ≡ whole → left ≡ file ∷ rest → new ≡ with_entry old file → fold with_entry new rest ≡ whole
names_turn file left rest old new whole inv e n = ap (λ (s : List Source). fold with_entry s rest) n ∙ ap (fold with_entry old) (sym e) ∙ inv

pub names_end : (left : List (List ℕ)) (old whole : List Source) → fold with_entry old left ≡ whole → left ≡ [] → old ≡ whole
names_end left old whole inv e = ap (fold with_entry old) (sym e) ∙ inv

-- ---- the names

pub names_are : (ms : List Module) → map (λ one. one.name) ms ≡ map (λ s. s.0) (map source ms)
names_are [] = refl
names_are (m ∷ ms) = ap (λ (names : List (List ℕ)). m.name ∷ names) (names_are ms)

pub names_told : (first : Option Told) (files names : List (List ℕ)) (ms : List Module) → IfSome first (λ t. files ≡ finite.keys t.files) → map source ms ≡ finite.entries (named_among files) → names ≡ map (λ one. one.name) ms
    → IfSome first (λ t. names ≡ names_of_texts t.files)
names_told None files names ms e h n = tt
names_told (Some t) files names ms e h n = n ∙ names_are ms ∙ ap (map (λ s. s.0)) h ∙ ap (λ (fs : List (List ℕ)). finite.keys (named_among fs)) e

pub name_turn : (old new : List (List ℕ)) (name own : List ℕ) (left rest whole : List (List ℕ)) → old ++ left ≡ whole → left ≡ own ∷ rest → new ≡ old ++ name ∷ [] → name ≡ own ++ [] → new ++ rest ≡ whole
name_turn old new name own left rest whole inv e n is =
    ap (λ (x : List (List ℕ)). x ++ rest) n ∙ append_assoc old (name ∷ []) rest ∙ ap (λ (x : List ℕ). old ++ x ∷ rest) (is ∙ append-nil own)
    ∙ ap (λ (x : List (List ℕ)). old ++ x) (sym e) ∙ inv

pub name_end : (old left whole : List (List ℕ)) → left ≡ [] → old ++ left ≡ whole → old ≡ whole
name_end old left whole e inv = sym (append-nil old) ∙ ap (λ (x : List (List ℕ)). old ++ x) (sym e) ∙ inv

pub modules_named : (ms : List Module) → All (λ name. is_module_name name ≡ true) (map (λ one. one.name) ms)
modules_named [] k d h = absurd (omega arith)
modules_named (m ∷ ms) zero d h = m.named
modules_named (m ∷ ms) (suc k) d h = modules_named ms k d (omega arith)
