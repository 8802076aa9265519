use Rattle.std.proofs.Common.{ℕ, ◌<◌, map}
use Rattle.pw_link_rules.specs.Entries.{declaration, Clash, Two}
use Rattle.pw_link_rules.proofs.conflicts.first_against.Given as goal

abbrev pub invariant-loop-j : goal.invariant-loop-j
invariant-loop-j l = (k : ℕ) → k < l.j → Two Clash (map declaration l.all) l.i k → ⊥
