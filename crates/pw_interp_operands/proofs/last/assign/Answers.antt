use Rattle.std.proofs.Common.{Some, ap, rules, sym}
use Rattle.pw_cmean.specs.Acts.{give}
use Rattle.pw_interp_todo.specs.Operands.{assigned_behind}
use Rattle.pw_interp_todo.proofs.LeadLaws.{followed, leaves, named, need_seen, then_more, then_stops}
use Rattle.pw_interp_operands.proofs.last.assign.Goals as goal

pub returns-in_err-value : goal.returns-in_err-value
unfolding assigned_behind
returns-in_err-value c bound =
    then_stops _ (c.used.ensures.answers _) c.in_err-value.was (search rules)

pub returns-in_err-ty : goal.returns-in_err-ty
unfolding assigned_behind
returns-in_err-ty c bound =
    then_more _ (c.used.ensures.answers _) c.in_ok-value.was
    (then_stops _ (need_seen _ c.need.ensures c.target_in.ensures) c.in_err-ty.was (search rules))

pub returns-in_err-put : goal.returns-in_err-put
unfolding assigned_behind
returns-in_err-put c bound =
    then_more _ (c.used.ensures.answers _) c.in_ok-value.was
    (then_more _ (need_seen _ c.need.ensures c.target_in.ensures) c.in_ok-ty.was
    (then_stops _ c.put.ensures c.in_err-put.was (search rules)))

pub returns : goal.returns
unfolding assigned_behind
returns c bound =
    then_more _ (c.used.ensures.answers _) c.in_ok-value.was
    (then_more _ (need_seen _ c.need.ensures c.target_in.ensures) c.in_ok-ty.was
    (then_more _ c.put.ensures c.in_ok-put.was
    (followed (named (ap (λ v. give (Some v)) (sym c.assigned.ensures))) (leaves _))))
