-- The first of a list that passes a test.
use Rattle.std.specs.Prelude.{◌≡◌, ℕ, ◌+◌, Bool, true, false, List, ◌∷◌, ◌++◌, length}
use Rattle.std.specs.List.{AllByRecursion}

-- none of these passes the test
abbrev pub NonePasses : {A : Type 0} → (A → Bool) → List A → Type 0
NonePasses test xs = AllByRecursion (λ x. test x ≡ false) xs

-- x is the first that passes the test, and its number, counted from 1, is n
pub record IsFirst {A : Type 0} (test : A → Bool) (xs : List A) (n : ℕ) (x : A) : Type 0 where
  pub front : List A
  pub rest : List A
  pub cut : xs ≡ front ++ x ∷ rest
  pub place : n ≡ length front + 1
  pub before : NonePasses test front
  pub passes : test x ≡ true
