use Rattle.std.proofs.Common.{ℕ, ◌≤◌, map}
use Rattle.pw_link_rules.specs.Entries.{declaration, Clash, Two}
use Rattle.pw_link_rules.proofs.conflicts.first_clash.Given as goal

abbrev pub invariant-loop-i : goal.invariant-loop-i
invariant-loop-i l = (a b : ℕ) → Two Clash (map declaration l.all) a b → l.i ≤ a
