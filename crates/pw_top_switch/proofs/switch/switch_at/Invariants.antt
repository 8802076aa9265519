use Rattle.std.proofs.Common.{map, string_bytes}
use Rattle.pw_top_switch.proofs.Switches.{SoFar}
use Rattle.pw_top_switch.proofs.switch.switch_at.Given as goal

abbrev pub invariant-loop-at : goal.invariant-loop-at
invariant-loop-at l = SoFar (map string_bytes l.words) l.at l.is_value
