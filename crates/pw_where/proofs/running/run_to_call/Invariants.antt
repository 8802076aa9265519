-- fewer calls came so far than are sought
use Rattle.std.proofs.Common.{◌≡◌, ◌<◌, ℕ, List, None}
use Rattle.std.specs.Prelude.{IfSome}
use Rattle.pw_machine.specs.Run.{start_state}
use Rattle.pw_where.specs.Calls.{Tells, Follows}
use Rattle.pw_where.proofs.running.run_to_call.Given as goal

abbrev pub invariant-loop-step : goal.invariant-loop-step
invariant-loop-step g l = record {
  going : l.machine.core.stopped ≡ None;
  some_left : 0 < l.left;
  follows : (entries : List ℕ) → Tells l.table entries → IfSome (g.I.Source.rest l.fn.input) (λ rest. Follows entries (start_state l.fn.machine.core rest) l.call l.left l._step l.machine.core (g.I.Source.rest l.input));
  read : g.I.Source.faults l.input ≡ g.I.Source.faults l.fn.input;
}
