-- Promises at each bound up to one: a loop and a `goto` go on with lower bounds in the middle.
use Rattle.std.specs.Prelude.{ℕ, ◌≤◌}

abbrev pub UpTo : ℕ → (ℕ → Type 0) → Type 0
UpTo bound Keeps = (k : ℕ) → k ≤ bound → Keeps k
