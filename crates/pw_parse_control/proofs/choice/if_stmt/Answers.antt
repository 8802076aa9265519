use Rattle.std.proofs.Common.{arith}
use Rattle.std.proofs.lemmas.Grind.{common_steps}
use Rattle.pw_parse_grammar.specs.Statements.{if_stmt}
use Rattle.pw_parse_control.proofs.choice.if_stmt.Goals as goal

pub returns : goal.returns
unfolding if_stmt
returns g c = grind (arith, common_steps, c.statements_show_their_lists.ensures.ifs)
