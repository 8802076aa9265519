use Rattle.std.proofs.Common.{rules, arith}
use Rattle.std.proofs.lemmas.Grind.{common_steps}
use Rattle.pw_tree.specs.Views.{view_expr}
use Rattle.pw_parse_grammar.specs.Expressions.{parenthesized}
use Rattle.pw_parse_expr.proofs.expr.parenthesized.Goals as goal

pub returns : goal.returns
unfolding parenthesized view_expr
returns g c = first_of (search rules, grind (arith, common_steps))
