-- Walks along the edges of a graph.
use Rattle.std.specs.Prelude.{◌≡◌, ℕ, zero, suc, List, ◌⊎◌}
use Rattle.pw_fix.specs.Solution.{HasEdge}

-- a walk of at most so many edges leads from m to n
abbrev pub Reaches : List (ℕ × ℕ) → ℕ → ℕ → ℕ → Type 0
Reaches edges zero m n = m ≡ n
Reaches edges (suc steps) m n = (m ≡ n) ⊎ ((k : ℕ) × HasEdge edges k n × Reaches edges steps m k)
