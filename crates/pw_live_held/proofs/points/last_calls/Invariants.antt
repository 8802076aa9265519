use Rattle.std.proofs.Common.{◌≡◌, ◌+◌, ◌≤◌, ℕ, length}
use Rattle.std.specs.Prelude.{Option, Some, slice_get}
use Rattle.pw_live_held.specs.Calls.{IsLastCall}
use Rattle.pw_live_held.proofs.points.last_calls.Given as goal

abbrev pub invariant-loop-p : goal.invariant-loop-p
invariant-loop-p l = record {
  high : l.p ≤ length l.all;
  long : length l.lasts.items ≡ l.p;
  each : (q : ℕ) (last : Option ℕ) → slice_get l.lasts.items q ≡ Some last → IsLastCall l.all 0 (q + 1) last;
  last : IsLastCall l.all 0 l.p l.last;
}
