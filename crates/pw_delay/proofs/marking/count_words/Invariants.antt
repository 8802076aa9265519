use Rattle.std.proofs.Common.{◌≡◌, ◌≤◌, ◌*◌, take}
use Rattle.pw_delay.specs.Placement.{sizes}
use Rattle.pw_delay.proofs.marking.count_words.Given as goal

abbrev pub invariant-loop-item : goal.invariant-loop-item
invariant-loop-item l = record {
  value : l.count ≡ sizes l.long (take l.item-index l.items);
  small : l.count ≤ 4 * l.item-index;
}
