use Rattle.std.proofs.Common.{rules, arith}
use Rattle.std.proofs.lemmas.Grind.{common_steps}
use Rattle.pw_tree.specs.Trees.{For}
use Rattle.pw_tree.specs.Views.{view_stmt}
use Rattle.pw_parse_grammar.specs.Input.{◌>>=◌, pure}
use Rattle.pw_parse_grammar.specs.Statements.{for_stmt}
use Rattle.pw_parse_control.proofs.Heads.{behind_for_head}
use Rattle.pw_parse_control.proofs.loops.for_stmt.Goals as goal

pub returns-in_err-head : goal.returns-in_err-head
unfolding for_stmt view_stmt
returns-in_err-head g c =
    let stmt = g.P.StmtParts.parser c.args.parts.now in
    let s = behind_for_head (g.P.StmtParts.limit c.args.parts.now) (λ a b d. stmt >>= λ s. pure (For c.take_number-token.result a b d s)) c.take_number-token.new.self in
    first_of (search rules, grind (arith, common_steps))

pub returns-in_err-body : goal.returns-in_err-body
unfolding for_stmt view_stmt
returns-in_err-body g c =
    let stmt = g.P.StmtParts.parser c.args.parts.now in
    let s = behind_for_head (g.P.StmtParts.limit c.args.parts.now) (λ a b d. stmt >>= λ s. pure (For c.take_number-token.result a b d s)) c.take_number-token.new.self in
    first_of (search rules, grind (arith, common_steps))

pub returns : goal.returns
unfolding for_stmt view_stmt
returns g c =
    let stmt = g.P.StmtParts.parser c.args.parts.now in
    let s = behind_for_head (g.P.StmtParts.limit c.args.parts.now) (λ a b d. stmt >>= λ s. pure (For c.take_number-token.result a b d s)) c.take_number-token.new.self in
    first_of (search rules, grind (arith, common_steps))
