use Rattle.std.proofs.Common.{arith}
use Rattle.std.proofs.lemmas.Grind.{common_steps}
use Rattle.pw_parse_grammar.specs.Expressions.{call}
use Rattle.pw_parse_expr.proofs.Shown.{call_shown}
use Rattle.pw_parse_expr.proofs.expr.call.Goals as goal

pub returns : goal.returns
unfolding call
returns g c = grind (arith, common_steps, call_shown c.expressions_show_their_lists.ensures.call)
