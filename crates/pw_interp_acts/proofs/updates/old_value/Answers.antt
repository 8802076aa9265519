use Rattle.std.proofs.Common.{rules}
use Rattle.pw_cmean.specs.Evaluation.{old_value}
use Rattle.pw_interp_calls.proofs.AnswerLaws.{then_ok, then_err}
use Rattle.pw_interp_acts.proofs.updates.old_value.Goals as goal

pub returns-in_err-old-clause-answers : goal.returns-in_err-old-clause-answers
unfolding old_value
returns-in_err-old-clause-answers c =
    then_err _ c.load.ensures.answers c.in_err-old.was (search rules)

pub returns-clause-answers : goal.returns-clause-answers
unfolding old_value
returns-clause-answers c =
    then_ok _ c.load.ensures.answers c.in_ok-old.was
    (c.convert.ensures.answers _)
