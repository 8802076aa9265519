use Rattle.std.proofs.Common.{◌≡◌, ◌++◌, length}
use Rattle.std.specs.List.{flat_map, AllByRecursion}
use Rattle.pw_select_lines.specs.Operations.{layout, web_op_lines}
use Rattle.pw_select_lines.specs.Selectable.{IsSelectable}
use Rattle.pw_select.proofs.selecting.put_ops.Given as goal

abbrev pub invariant-loop-rest : goal.invariant-loop-rest
invariant-loop-rest l = record {
  so_far : l.out ++ flat_map (web_op_lines (layout l.places l.slots)) l.rest ≡ l.fn.out ++ flat_map (web_op_lines (layout l.places l.slots)) l.ops;
  lawful : AllByRecursion IsSelectable l.rest;
}

abbrev pub decreases-loop-rest : goal.decreases-loop-rest
decreases-loop-rest l = length l.rest
