use Rattle.std.proofs.Common.{rules}
use Rattle.pw_interp_todo.specs.Operands.{updated_behind}
use Rattle.pw_interp_todo.proofs.LeadLaws.{leaves, need_seen, then_more, then_stops}
use Rattle.pw_interp_operands.proofs.last.compound.Goals as goal

pub returns-in_err-value : goal.returns-in_err-value
unfolding updated_behind
returns-in_err-value c bound =
    then_stops _ (c.used.ensures.answers _) c.in_err-value.was (search rules)

pub returns-in_err-node : goal.returns-in_err-node
unfolding updated_behind
returns-in_err-node c bound =
    then_more _ (c.used.ensures.answers _) c.in_ok-value.was
    (then_stops _ (need_seen _ c.need.ensures c.compound_in.ensures) c.in_err-node.was (search rules))

pub returns-in_err-result : goal.returns-in_err-result
unfolding updated_behind
returns-in_err-result c bound =
    then_more _ (c.used.ensures.answers _) c.in_ok-value.was
    (then_more _ (need_seen _ c.need.ensures c.compound_in.ensures) c.in_ok-node.was
    (then_stops _ c.update.ensures c.in_err-result.was (search rules)))

pub returns : goal.returns
unfolding updated_behind
returns c bound =
    then_more _ (c.used.ensures.answers _) c.in_ok-value.was
    (then_more _ (need_seen _ c.need.ensures c.compound_in.ensures) c.in_ok-node.was
    (then_more _ c.update.ensures c.in_ok-result.was
    (leaves _)))
