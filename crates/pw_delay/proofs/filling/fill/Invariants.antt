use Rattle.std.proofs.Common.{◌≡◌, ◌++◌, false, List}
use Rattle.pw_delay.specs.declared.items.Item.{Item}
use Rattle.pw_delay.specs.Filling.{filled}
use Rattle.pw_delay.specs.Steps.{whole}
use Rattle.pw_delay.proofs.filling.fill.Given as goal

abbrev pub invariant-loop-item : goal.invariant-loop-item
invariant-loop-item l = (rest : List Item) → whole l.done l.behind l.last rest ≡ filled false (l.yielded ++ rest)
