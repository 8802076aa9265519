use Rattle.std.proofs.Common.{◌<◌, ◌+◌, ℕ, map}
use Rattle.pw_link_rules.specs.Entries.{definition}
use Rattle.pw_link_rules.proofs.Twice.{IsOther}
use Rattle.pw_link_rules.proofs.duplicates.first_again.Given as goal

abbrev pub invariant-loop-i : goal.invariant-loop-i
invariant-loop-i l = (k : ℕ) → k + 1 < l.i → IsOther (map definition l.all) k
