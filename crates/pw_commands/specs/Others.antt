-- The files that a command leaves alone.
use Rattle.std.specs.Prelude.{◌≡◌, ◌≢◌, ◌≤◌, ℕ, ◌⊎◌, List, [], ◌∷◌, ◌++◌, length, Option, IfSome, IsSomeAnd}
use Rattle.std.specs.List.{AllByRecursion}
use Rattle.std.specs.FinMap as finite
use Rattle.pw_io.specs.Files.{Files, Told}
use Rattle.pw_top_answer.specs.declared.answer.Answer.{Answer}
use Rattle.pw_top_answer.specs.declared.answer.Answer.TheVariants.{StoreFault}

-- the name is none of these
abbrev pub IsNoneOf : List (List ℕ) → List ℕ → Type 0
IsNoneOf [] name = Unit {0}
IsNoneOf (other ∷ names) name = (name ≡ other → ⊥) × IsNoneOf names name

-- each file but those of these names is as it was: it has its old bytes, or is absent as before
abbrev pub IsSameBut : List (List ℕ) → Files → Files → Type 0
IsSameBut names old new = (name : List ℕ) → IsNoneOf names name → finite.get new name ≡ finite.get old name

-- the name is one of these
abbrev pub IsOneOf : List (List ℕ) → List ℕ → Type 0
IsOneOf [] name = ⊥
IsOneOf (other ∷ names) name = (name ≡ other) ⊎ IsOneOf names name

-- Only files of these names were put. The store tells which, and every other file has its old bytes, or is absent as before,
-- but, where the store failed, perhaps one of these names, whose put failed.
pub record PutsOnly (names : List (List ℕ)) (answer : Answer) (told left : Told) : Type 0 where
  pub put : List (List ℕ)
  pub failed : List (List ℕ)
  pub own : AllByRecursion (IsOneOf names) (put ++ failed)
  pub one : length failed ≤ 1
  pub none : answer ≢ StoreFault → failed ≡ []
  pub told_so : left.puts ≡ told.puts ++ put
  pub same : IsSameBut (put ++ failed) told.files left.files

-- A store that told its files goes on telling them, and only files of these names were put.
abbrev pub KeepsOthers : List (List ℕ) → Answer → Option Told → Option Told → Type 0
KeepsOthers names answer old new = IfSome old (λ told. IsSomeAnd new (PutsOnly names answer told))
