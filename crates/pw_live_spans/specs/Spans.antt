-- Spans: stretches of points, each from a first one up to one that is no longer in it.
use Rattle.std.specs.Prelude.{ℕ, ◌≤◌, ◌<◌, List, Contains}

abbrev pub IsIn : ℕ × ℕ → ℕ → Type 0
IsIn span q = (span.0 ≤ q) × (q < span.1)

-- some span has the point
abbrev pub Covers : List (ℕ × ℕ) → ℕ → Type 0
Covers spans q = (span : ℕ × ℕ) × Contains spans span × IsIn span q
