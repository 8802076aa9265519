use Rattle.std.proofs.Common.{◌≡◌, length}
use Rattle.pw_lstmt.specs.Frames.{all_joined}
use Rattle.pw_lstmt.proofs.statements.close_joins.Given as goal

-- the joins that are left are still to be closed
abbrev pub invariant-loop-join : goal.invariant-loop-join
invariant-loop-join l = all_joined l.joins.items l.code ≡ all_joined l.initial.joins.items l.fn.code

abbrev pub decreases-loop-join : goal.decreases-loop-join
decreases-loop-join l = length l.joins.items
