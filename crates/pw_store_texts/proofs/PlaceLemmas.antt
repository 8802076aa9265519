-- A module in its place among others.
use Rattle.std.proofs.Common.{◌≡◌, ℕ, zero, suc, ◌+◌, List, [], ◌∷◌, ◌++◌, set, take, drop, sym, ap, ◌∙◌, arith}
use Rattle.std.specs.Prelude.{insert}
use Rattle.std.specs.Ordering.{nat_cmp}
use Rattle.std.specs.declared.cmp.Ordering.{Ordering}
use Rattle.std.specs.declared.cmp.Ordering.TheVariants.{Less, Equal, Greater}
use Rattle.std.specs.Cmp.Lexicographic.{slice_cmp}
use Rattle.std.specs.FinMap.{slice_cmp-IsAntisymmetric, nat_cmp-IsAntisymmetric}
use Rattle.std.specs.FinMap.Entries.{by_order}
use Rattle.pw_store_modules.specs.Modules.{Source}
use Rattle.pw_store_texts.specs.Placing.{placed}

abbrev by_bytes : List ℕ → List ℕ → Ordering
by_bytes = slice_cmp nat_cmp

-- an element more stands before what is left
one_passed : {A : Type 0} (xs : List A) (i : ℕ) (x : A) (rest ys : List A) → drop i xs ≡ x ∷ rest → take i xs ++ (x ∷ ys) ≡ take (i + 1) xs ++ ys
one_passed [] zero x rest ys e = cc
one_passed [] (suc i) x rest ys e = cc
one_passed (z ∷ xs) zero x rest ys e = let same : z ≡ x = cc in ap (λ y. y ∷ ys) (sym same)
one_passed (z ∷ xs) (suc i) x rest ys e =
    let more : suc i + 1 ≡ suc (i + 1) = omega arith in
    ap (λ l. z ∷ l) (one_passed xs i x rest ys e) ∙ ap (λ k. take k (z ∷ xs) ++ ys) (sym more)

set_here : {A : Type 0} (xs : List A) (i : ℕ) (x y : A) (rest : List A) → drop i xs ≡ x ∷ rest → take i xs ++ (y ∷ rest) ≡ set xs i y
set_here [] zero x y rest e = cc
set_here [] (suc i) x y rest e = cc
set_here (z ∷ xs) zero x y rest e = let same : xs ≡ rest = cc in ap (λ l. y ∷ l) (sym same)
set_here (z ∷ xs) (suc i) x y rest e = ap (λ l. z ∷ l) (set_here xs i x y rest e)

-- the first modules stay, where one is put among all
abbrev pub StandBefore : List Source → List ℕ → ℕ → Type 0
StandBefore sources name i = (text : List ℕ) → placed name text sources ≡ take i sources ++ placed name text (drop i sources)

by : (name text : List ℕ) (s : Source) (rest : List Source) (o : Ordering) → by_bytes name s.0 ≡ o
    → placed name text (s ∷ rest) ≡ by_order o ((name, text) ∷ s ∷ rest) ((s.0, text) ∷ rest) (s ∷ placed name text rest)
by name text s rest o e = ap (λ r. by_order r ((name, text) ∷ s ∷ rest) ((s.0, text) ∷ rest) (s ∷ placed name text rest)) e

pub place_before : (sources : List Source) (name : List ℕ) (i : ℕ) (s : Source) (rest : List Source) → StandBefore sources name i → drop i sources ≡ s ∷ rest → by_bytes name s.0 ≡ Less
    → (text : List ℕ) → placed name text sources ≡ insert sources i (name, text)
place_before sources name i s rest inv e o text =
    inv text ∙ ap (λ l. take i sources ++ l) (ap (placed name text) e ∙ by name text s rest Less o ∙ ap (λ l. (name, text) ∷ l) (sym e))

pub place_at : (sources : List Source) (name : List ℕ) (i : ℕ) (s : Source) (rest : List Source) → StandBefore sources name i → drop i sources ≡ s ∷ rest → by_bytes name s.0 ≡ Equal
    → (text : List ℕ) → placed name text sources ≡ set sources i (name, text)
place_at sources name i s rest inv e o text =
    let same : name ≡ s.0 = slice_cmp-IsAntisymmetric nat_cmp-IsAntisymmetric name s.0 o in
    inv text ∙ ap (λ l. take i sources ++ l) (ap (placed name text) e ∙ by name text s rest Equal o ∙ ap (λ n. (n, text) ∷ rest) (sym same))
    ∙ set_here sources i s (name, text) rest e

pub place_behind : (sources : List Source) (name : List ℕ) (i : ℕ) (s : Source) → StandBefore sources name i → drop i sources ≡ s ∷ drop (i + 1) sources → by_bytes name s.0 ≡ Greater
    → StandBefore sources name (i + 1)
place_behind sources name i s inv e o text =
    inv text ∙ ap (λ l. take i sources ++ l) (ap (placed name text) e ∙ by name text s (drop (i + 1) sources) Greater o)
    ∙ one_passed sources i s (drop (i + 1) sources) (placed name text (drop (i + 1) sources)) e

pub place_last : (sources : List Source) (name : List ℕ) (i : ℕ) → StandBefore sources name i → drop i sources ≡ []
    → (text : List ℕ) → placed name text sources ≡ insert sources i (name, text)
place_last sources name i inv e text =
    inv text ∙ ap (λ l. take i sources ++ l) (ap (placed name text) e ∙ ap (λ l. (name, text) ∷ l) (sym e))
