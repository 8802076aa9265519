use Rattle.std.proofs.Common.{rules, arith}
use Rattle.std.proofs.lemmas.Grind.{common_steps}
use Rattle.pw_parse_grammar.specs.Expressions.{size}
use Rattle.pw_parse_expr.proofs.expr.size.Goals as goal

pub returns-then-opens_type_name : goal.returns-then-opens_type_name
unfolding size
returns-then-opens_type_name g c =
    let shown = c.expressions_show_their_lists.ensures.size in
    first_of (search (rules, shown), grind (arith, common_steps, shown))
