use Rattle.std.proofs.Common.{◌≡◌, map, take}
use Rattle.std.specs.List.{position_or_len}
use Rattle.pw_value.specs.Names.{is_before}
use Rattle.pw_link.proofs.order.place_of.Given as goal

abbrev pub invariant-loop-place : goal.invariant-loop-place
invariant-loop-place l = position_or_len (λ p. is_before l.object.module p.module) (map (λ o. o.now) (take l.place l.order)) ≡ l.place
