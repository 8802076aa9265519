use Rattle.std.proofs.Common.{length}
use Rattle.pw_cpp_sources.proofs.InRows.{AreLeft}
use Rattle.pw_cpp_sources.proofs.rows.put_rows.Given as goal

-- the rows that are left are still to come
abbrev pub invariant-loop-places : goal.invariant-loop-places
invariant-loop-places l = AreLeft l.source l.rows l.tokens l.initial.out.items l.places l.left l.out.items

abbrev pub decreases-loop-places : goal.decreases-loop-places
decreases-loop-places l = length l.places
