use Rattle.std.proofs.Common.{◌≡◌, ◌≤◌, ◌-◌, ◌+◌}
use Rattle.std.specs.List.{range_with_len}
use Rattle.pw_db.specs.Limits.{last_register}
use Rattle.pw_cluster_roots.proofs.saving.last_registers.Given as goal

abbrev pub invariant-loop-register : goal.invariant-loop-register
invariant-loop-register l = (last_register + 1 - l.count ≤ l.register) × (l.registers ≡ range_with_len (last_register + 1 - l.count) (l.register - (last_register + 1 - l.count)))
