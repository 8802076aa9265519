use Rattle.std.proofs.Common.{◌≡◌}
use Rattle.std.specs.Bool.{OnTrue, OnFalse}
use Rattle.pw_opt_rows.proofs.Joining.{IsJoinedBelow, HasRisen}
use Rattle.pw_opt_rows.proofs.row.join_rows.Given as goal

abbrev pub invariant-loop-t : goal.invariant-loop-t
invariant-loop-t l = record {
  joined : IsJoinedBelow l.fn.into l.from l.into l.t;
  risen : OnTrue l.risen (HasRisen l.fn.into l.into);
  stays : OnFalse l.risen (l.into ≡ l.fn.into);
}
