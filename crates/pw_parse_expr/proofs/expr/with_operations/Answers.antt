use Rattle.std.proofs.Common.{arith}
use Rattle.std.proofs.lemmas.Grind.{common_steps}
use Rattle.pw_parse_expr.proofs.Nodes.{chain_made}
use Rattle.pw_parse_expr.proofs.expr.with_operations.Goals as goal

pub returns-clause-found : goal.returns-clause-found
returns-clause-found c = grind (arith, common_steps, chain_made c.expressions_show_their_lists.ensures.chain)
