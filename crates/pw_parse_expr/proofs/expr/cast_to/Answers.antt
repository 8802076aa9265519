use Rattle.std.proofs.Common.{arith}
use Rattle.std.proofs.lemmas.Grind.{common_steps}
use Rattle.pw_parse_grammar.specs.Expressions.{cast_to}
use Rattle.pw_parse_expr.proofs.expr.cast_to.Goals as goal

pub returns : goal.returns
unfolding cast_to
returns g c = grind (arith, common_steps, c.expressions_show_their_lists.ensures.cast)
