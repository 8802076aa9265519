use Rattle.std.proofs.Common.{◌≡◌, ◌+◌, drop}
use Rattle.pw_value.specs.Objects.{with_bytes}
use Rattle.pw_interp_state.proofs.bytes.write_bytes.Given as goal

abbrev pub invariant-loop-i : goal.invariant-loop-i
invariant-loop-i l = with_bytes (drop l.i l.new) (l.offset + l.i) l.bytes ≡ with_bytes l.new l.offset l.initial.bytes
