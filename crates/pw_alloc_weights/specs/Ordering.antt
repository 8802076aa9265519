-- Temporaries with their weights, and their order.
use Rattle.std.specs.Prelude.{ℕ, suc, ◌≡◌, ◌<◌, ◌⊎◌, List, [], ◌∷◌}
use Rattle.pw_alloc_weights.specs.declared.order.Weighed.{Weighed}

-- by number, from one on
abbrev pub numbered : ℕ → List ℕ → List Weighed
numbered t [] = []
numbered t (w ∷ rest) = record { temp = t; weight = w } ∷ numbered (suc t) rest

abbrev pub Rises : Weighed → Weighed → Type 0
Rises a b = a.temp < b.temp

-- of more weight, or of one weight and a lesser number
abbrev pub ComesFirst : Weighed → Weighed → Type 0
ComesFirst a b = (b.weight < a.weight) ⊎ ((a.weight ≡ b.weight) × (a.temp < b.temp))
