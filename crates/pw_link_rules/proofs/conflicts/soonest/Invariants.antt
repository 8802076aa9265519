use Rattle.std.proofs.Common.{map}
use Rattle.pw_link_rules.specs.Entries.{declaration, IsSoonest}
use Rattle.pw_link_rules.proofs.conflicts.soonest.Given as goal

abbrev pub invariant-loop-k : goal.invariant-loop-k
invariant-loop-k l = IsSoonest (map declaration l.all) l.i l.k l.found.0 l.found.1
