use Rattle.std.proofs.Common.{◌≡◌, ℕ, ◌<◌, ◌≤◌, List, map}
use Rattle.std.specs.Prelude.{Some, slice_get}
use Rattle.pw_link_rules.specs.Entries.{declaration, key}
use Rattle.pw_link_rules.proofs.conflicts.run_end.Given as goal

abbrev pub invariant-loop-k : goal.invariant-loop-k
invariant-loop-k l = (n : ℕ) (a b : List ℕ × List ℕ × List ℕ) → l.i ≤ n → n < l.k → slice_get (map declaration l.all) l.i ≡ Some a → slice_get (map declaration l.all) n ≡ Some b → key a ≡ key b
