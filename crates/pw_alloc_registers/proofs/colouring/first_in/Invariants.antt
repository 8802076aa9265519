use Rattle.std.proofs.Common.{◌≡◌, ◌-◌, not}
use Rattle.std.specs.List.{find, range_with_len}
use Rattle.pw_alloc_masks.specs.Masks.{in_mask}
use Rattle.pw_alloc_registers.proofs.colouring.first_in.Given as goal

abbrev pub invariant-loop-r : goal.invariant-loop-r
invariant-loop-r l = find (λ r. not (in_mask l.away r)) (range_with_len l.r (l.to - l.r)) ≡ find (λ r. not (in_mask l.away r)) (range_with_len l.from (l.to - l.from))
