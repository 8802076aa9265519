use Rattle.std.proofs.Common.{◌≡◌, drop}
use Rattle.pw_lower.specs.Places.{addressed_in_arms, addressed_in_statements}
use Rattle.pw_typed.specs.Views.{view_arms, view_stmts}
use Rattle.pw_lower_places.specs.Marks.{marked}
use Rattle.pw_lower_places.proofs.addressed.+statement.Given as goal

abbrev pub invariant-mark_in_arms-loop-arm : goal.invariant-mark_in_arms-loop-arm
invariant-mark_in_arms-loop-arm l =
    marked (addressed_in_arms (view_arms (drop l.arm-index l.arms))) l.marks ≡ marked (addressed_in_arms (view_arms l.arms)) l.fn.marks

abbrev pub invariant-mark_in_statements-loop-s : goal.invariant-mark_in_statements-loop-s
invariant-mark_in_statements-loop-s l =
    marked (addressed_in_statements (view_stmts (drop l.s-index l.all))) l.marks ≡ marked (addressed_in_statements (view_stmts l.all)) l.fn.marks
