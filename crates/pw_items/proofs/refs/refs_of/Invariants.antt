use Rattle.std.proofs.Common.{◌≡◌, map, take}
use Rattle.pw_items.proofs.refs.refs_of.Given as goal

abbrev pub invariant-loop-item : goal.invariant-loop-item
invariant-loop-item g l = map (λ item. item.now) l.refs.items ≡ take l.item-index l.items
