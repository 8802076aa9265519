-- Lists of files, one after another.
use Rattle.std.proofs.Common.{◌≡◌, ℕ, zero, suc, ◌+◌, ◌<◌, Bool, true, false, cond, List, [], ◌∷◌, length, get_or, take, drop, map, refl, sym, ap, arith, ◌∙◌}
use Rattle.std.specs.Prelude.{fold, insert, All}
use Rattle.std.specs.List.{position_or_len}
use Rattle.std.proofs.lemmas.List.{take-map, drop-map, map-append}
use Rattle.std.proofs.lemmas.List.Elements.{All-nil, All-cons, All-append, All-take, All-drop, All-tail}
use Rattle.pw_store_modules.specs.Modules.{is_module_file, IsModuleFile}
use Rattle.pw_store_modules.specs.Reading.{is_file_before, placed, with_file, module_files}

-- what is left of a mapped list, from an element on
pub mapped_rest : {A B : Type 0} (f : A → B) (xs : List A) (i : ℕ) (x : A) → i < length xs → x ≡ get_or xs i x → drop i (map f xs) ≡ f x ∷ drop (i + 1) (map f xs)
mapped_rest f [] i x h e = absurd (omega arith)
mapped_rest f (y ∷ ys) zero x h e = ap (λ v. f v ∷ map f ys) (sym e)
mapped_rest f (y ∷ ys) (suc i) x h e =
    let more : suc i + 1 ≡ suc (i + 1) = omega arith in
    mapped_rest f ys i x (omega arith) e ∙ ap (λ k. f x ∷ drop k (f y ∷ map f ys)) (sym more)

-- a place found, and one passed
pub place_here : {A : Type 0} (p : A → Bool) (i : ℕ) (xs rest : List A) (x : A) → i + position_or_len p (drop i xs) ≡ position_or_len p xs → drop i xs ≡ x ∷ rest → p x ≡ true → i ≡ position_or_len p xs
place_here p i xs rest x inv e t =
    let none : position_or_len p (drop i xs) ≡ 0 = ap (position_or_len p) e ∙ rw t refl in
    omega (arith, none, inv)

pub place_passed : {A : Type 0} (p : A → Bool) (i : ℕ) (xs rest : List A) (x : A) → i + position_or_len p (drop i xs) ≡ position_or_len p xs → drop i xs ≡ x ∷ rest → p x ≡ false → i + 1 + position_or_len p rest ≡ position_or_len p xs
place_passed p i xs rest x inv e t =
    let one : position_or_len p (drop i xs) ≡ 1 + position_or_len p rest = ap (position_or_len p) e ∙ rw t refl in
    omega (arith, one, inv)

-- a list with one more element, mapped
pub mapped_insert : {A B : Type 0} (f : A → B) (xs : List A) (i : ℕ) (x : A) → map f (insert xs i x) ≡ insert (map f xs) i (f x)
mapped_insert f xs i x = map-append f (take i xs) (x ∷ drop i xs) ∙ rw (take-map, drop-map) refl

-- a fold over what is left, whose next element changes the accumulated value or leaves it
pub folded : {A B : Type 0} (f : B → A → B) (b : B) (xs rest : List A) (i : ℕ) (x : A) (all : B) → fold f b (drop i xs) ≡ all → drop i xs ≡ x ∷ rest → fold f (f b x) rest ≡ all
folded f b xs rest i x all inv e = sym (ap (fold f b) e) ∙ inv

-- every file among the modules' files is a module's
placed_modules : (files : List (List ℕ)) (file : List ℕ) → All IsModuleFile files → IsModuleFile file → All IsModuleFile (placed files file)
placed_modules files file all h =
    let at = position_or_len (is_file_before file) files in
    All-append IsModuleFile (take at files) (file ∷ drop at files) (All-take IsModuleFile at files all) (All-cons IsModuleFile file (drop at files) h (All-drop IsModuleFile at files all))

with_modules : (files : List (List ℕ)) (file : List ℕ) → All IsModuleFile files → All IsModuleFile (with_file files file)
with_modules files file all =
    elim (is_module_file file) as (λ b. is_module_file file ≡ b → All IsModuleFile (cond b (placed files file) files)) [
      | true ↦ λ h. placed_modules files file all h
      | false ↦ λ h. all
    ] refl

folded_modules : (files names : List (List ℕ)) → All IsModuleFile files → All IsModuleFile (fold with_file files names)
folded_modules files [] all = all
folded_modules files (name ∷ names) all = folded_modules (with_file files name) names (with_modules files name all)

pub all_are_modules : (names : List (List ℕ)) → All IsModuleFile (module_files names)
all_are_modules names = folded_modules [] names (All-nil IsModuleFile)

-- what holds of each mapped element
pub all_mapped : {A B : Type 0} (P : B → Type 0) (f : A → B) (xs : List A) → All P (map f xs) → All (λ x. P (f x)) xs
all_mapped P f [] all k d h = absurd (omega arith)
all_mapped P f (x ∷ xs) all zero d h = all 0 (f x) (omega arith)
all_mapped P f (x ∷ xs) all (suc k) d h = all_mapped P f xs (All-tail P (f x) (map f xs) all) k d (omega arith)
