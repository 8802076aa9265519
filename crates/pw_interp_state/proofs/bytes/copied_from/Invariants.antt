use Rattle.std.proofs.Common.{◌≡◌}
use Rattle.pw_value.specs.Objects.{bytes_from}
use Rattle.pw_interp_state.proofs.bytes.copied_from.Given as goal

abbrev pub invariant-loop-i : goal.invariant-loop-i
invariant-loop-i l = l.copied.items ≡ bytes_from l.i l.offset l.bytes
