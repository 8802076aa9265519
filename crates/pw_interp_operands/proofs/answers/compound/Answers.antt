use Rattle.std.proofs.Common.{rules}
use Rattle.pw_interp_operands.proofs.NodeLaws.{compound_is}
use Rattle.pw_interp_todo.specs.Operands.{updated_behind}
use Rattle.pw_interp_todo.proofs.LeadLaws.{followed, leaves, named, need_there, then_more, then_stops}
use Rattle.pw_interp_operands.proofs.answers.compound.Goals as goal

pub returns-in_err-place : goal.returns-in_err-place
unfolding updated_behind
returns-in_err-place c op is bound =
    followed (named (compound_is _ _ _ _ _ _ _ _ _ is))
    (then_stops _ (need_there _ c.need.ensures) c.in_err-place.was (search rules))

pub returns-in_err-old : goal.returns-in_err-old
unfolding updated_behind
returns-in_err-old c op is bound =
    followed (named (compound_is _ _ _ _ _ _ _ _ _ is))
    (then_more _ (need_there _ c.need.ensures) c.in_ok-place.was
    (then_stops _ c.old_value.ensures.answers c.in_err-old.was (search rules)))

pub returns : goal.returns
unfolding updated_behind
returns c op is bound =
    followed (named (compound_is _ _ _ _ _ _ _ _ _ is))
    (then_more _ (need_there _ c.need.ensures) c.in_ok-place.was
    (then_more _ c.old_value.ensures.answers c.in_ok-old.was
    (leaves _)))
