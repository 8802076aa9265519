use Rattle.std.proofs.Common.{◌≡◌, ◌+◌, ◌-◌, ◌&&◌, not}
use Rattle.std.specs.List.{find, range_with_len}
use Rattle.pw_db.specs.Limits.{last_register, kept_registers}
use Rattle.pw_alloc_masks.specs.Masks.{in_mask}
use Rattle.pw_alloc_registers.proofs.colouring.first_shared.Given as goal

abbrev pub invariant-loop-r : goal.invariant-loop-r
invariant-loop-r l = find (λ r. in_mask l.cluster r && not (in_mask l.away r)) (range_with_len l.r (last_register + 1 - l.r)) ≡ find (λ r. in_mask l.cluster r && not (in_mask l.away r)) kept_registers
