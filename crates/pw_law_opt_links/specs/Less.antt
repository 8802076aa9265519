-- Modules that show no more to one another than others.
use Rattle.std.specs.Prelude.{ℕ, ◌≡◌, Some, List, [], ◌∷◌, Contains}
use Rattle.pw_link_rules.specs.declared.interface.Interface.{Interface}

-- the second defines what the first defines, declares and uses no more, and has a `main` of the shape that the first has
pub record ShowsLess (i j : Interface) : Type 0 where
  pub named : j.module ≡ i.module
  pub functions : j.functions ≡ i.functions
  pub globals : j.globals ≡ i.globals
  pub declared : (d : List ℕ × List ℕ) → Contains j.declared d → Contains i.declared d
  pub used : (name : List ℕ) → Contains j.used name → Contains i.used name
  pub main : (shape : List ℕ) → i.main ≡ Some shape → j.main ≡ Some shape

-- one by one
abbrev pub AllShowLess : List Interface → List Interface → Type 0
AllShowLess [] [] = Unit {0}
AllShowLess [] (j ∷ js) = ⊥
AllShowLess (i ∷ is) [] = ⊥
AllShowLess (i ∷ is) (j ∷ js) = ShowsLess i j × AllShowLess is js
