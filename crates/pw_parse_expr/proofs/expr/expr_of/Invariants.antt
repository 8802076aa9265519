use Rattle.std.proofs.Common.{◌≡◌, ◌≤◌, ◌-◌, Ok}
use Rattle.pw_tree.specs.Views.{view_expr}
use Rattle.pw_parse_grammar.specs.Expressions.{above_cast}
use Rattle.pw_parse_expr.proofs.expr.expr_of.Given as goal

abbrev pub invariant-loop-below : goal.invariant-loop-below
invariant-loop-below g l = record {
  from : 3 ≤ l.below;
  to : l.below ≤ l.level;
  read : above_cast (g.P.SmallerParts.parsers l.parts) (l.below - 3) l.fn.tokens ≡ Ok (view_expr l.found, l.tokens);
}
