use Rattle.std.proofs.Common.{◌≡◌, ◌++◌, length}
use Rattle.std.specs.List.{AllByRecursion}
use Rattle.pw_select.specs.Selection.{blocks_lines}
use Rattle.pw_select.specs.Selectable.{IsSelectableBlock}
use Rattle.pw_select.proofs.selecting.put_blocks.Given as goal

abbrev pub invariant-loop-rest : goal.invariant-loop-rest
invariant-loop-rest l = record {
  so_far : l.out ++ blocks_lines l.f l.slots l.number l.rest ≡ l.fn.out ++ blocks_lines l.f l.slots 0 l.blocks;
  lawful : AllByRecursion IsSelectableBlock l.rest;
}

abbrev pub decreases-loop-rest : goal.decreases-loop-rest
decreases-loop-rest l = length l.rest
