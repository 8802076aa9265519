use Rattle.std.proofs.Common.{nat_le, ap, arith}
use Rattle.std.proofs.lemmas.Grind.{common_steps}
use Rattle.pw_tree.specs.Levels.{level, unary}
use Rattle.pw_tree.specs.Views.{view_expr}
use Rattle.pw_parse_expr.proofs.Nodes.{chain_is_unary}
use Rattle.pw_parse_expr.proofs.expr.is_unary.Goals as goal

pub returns-in-Chain : goal.returns-in-Chain
returns-in-Chain c =
    let s = chain_is_unary c.expressions_show_their_lists.ensures.chain c.in-Chain.first c.in-Chain.rest in
    let t = ap (λ e. nat_le (level (view_expr e)) unary) c.in-Chain.is in
    first_of (cc, grind (arith, common_steps))
