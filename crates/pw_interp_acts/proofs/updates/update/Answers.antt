use Rattle.std.proofs.Common.{rules}
use Rattle.pw_cmean.specs.Evaluation.{update}
use Rattle.pw_interp_calls.proofs.AnswerLaws.{then_ok, then_err, gives}
use Rattle.pw_interp_acts.proofs.updates.update.Goals as goal

pub returns-in_err-new : goal.returns-in_err-new
unfolding update
returns-in_err-new c =
    then_err _ c.binary.ensures.answers c.in_err-new.was (search rules)

pub returns-in_err-value : goal.returns-in_err-value
unfolding update
returns-in_err-value c =
    then_ok _ c.binary.ensures.answers c.in_ok-new.was
    (then_err _ (c.convert.ensures.answers _) c.in_err-value.was (search rules))

pub returns-in_err-put : goal.returns-in_err-put
unfolding update
returns-in_err-put c =
    then_ok _ c.binary.ensures.answers c.in_ok-new.was
    (then_ok _ (c.convert.ensures.answers _) c.in_ok-value.was
    (then_err _ c.put.ensures c.in_err-put.was (search rules)))

pub returns : goal.returns
unfolding update
returns c =
    then_ok _ c.binary.ensures.answers c.in_ok-new.was
    (then_ok _ (c.convert.ensures.answers _) c.in_ok-value.was
    (then_ok _ c.put.ensures c.in_ok-put.was
    (gives c.in_ok-value.value)))
