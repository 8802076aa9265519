use Rattle.std.proofs.Common.{rules, Some, ap, sym}
use Rattle.pw_value.specs.declared.value.Value.TheVariants as V
use Rattle.pw_types.specs.TypedTrees as tree
use Rattle.pw_types.specs.Views.{view_qtype}
use Rattle.pw_typed.specs.Views.{view_form}
use Rattle.pw_cmean.specs.Evaluation.{answer_of}
use Rattle.pw_cmean.specs.SourceRun.{calls}
use Rattle.pw_interp_calls.specs.Views.{view_env}
use Rattle.pw_interp_calls.proofs.AnswerLaws.{then_ok, then_err, gives, gives_as, same}
use Rattle.pw_interp_direct.proofs.values.+direct.Goals as goal

pub answer_of-returns-in-Number : goal.answer_of-returns-in-Number
unfolding answer_of view_form
answer_of-returns-in-Number t c bound =
    let e = view_env c.args.env.now in
    same (ap (λ form. answer_of (tree.Node c.args.e.now.token (view_qtype c.args.e.now.ty) form) (calls e.world bound) e) (ap view_form c.in-Number.is)) (gives (Some (V.Num c.in-Number.n)))

pub operand-returns-in_err-answer-clause-answers : goal.operand-returns-in_err-answer-clause-answers
operand-returns-in_err-answer-clause-answers t c bound = then_err _ (c.answer_of.ensures bound) c.in_err-answer.was (search rules)

pub operand-returns-clause-answers : goal.operand-returns-clause-answers
operand-returns-clause-answers t c bound = then_ok _ (c.answer_of.ensures bound) c.in_ok-answer.was (c.used.ensures.answers _)

pub operand-returns-in_err-answer-clause-points : goal.operand-returns-in_err-answer-clause-points
unfolding answer_of
operand-returns-in_err-answer-clause-points t c bound ty = then_err _ (c.answer_of.ensures bound) c.in_err-answer.was (search rules)

pub operand-returns-clause-points : goal.operand-returns-clause-points
unfolding answer_of
operand-returns-clause-points t c bound ty = then_ok _ (c.answer_of.ensures bound) c.in_ok-answer.was (c.used.ensures.answers _)

pub unary-returns-in_err-value : goal.unary-returns-in_err-value
unfolding answer_of
unary-returns-in_err-value t c bound = then_err _ (c.operand.ensures.answers bound) c.in_err-value.was (search rules)

pub unary-returns-in_err-result : goal.unary-returns-in_err-result
unfolding answer_of
unary-returns-in_err-result t c bound =
    then_ok _ (c.operand.ensures.answers bound) c.in_ok-value.was
    (then_err _ c.unary.ensures.answers c.in_err-result.was (search rules))

pub unary-returns : goal.unary-returns
unfolding answer_of
unary-returns t c bound =
    then_ok _ (c.operand.ensures.answers bound) c.in_ok-value.was
    (then_ok _ c.unary.ensures.answers c.in_ok-result.was
    (gives (Some c.in_ok-result.result)))

pub binary-returns-in_err-left : goal.binary-returns-in_err-left
unfolding answer_of
binary-returns-in_err-left t c bound ty = then_err _ (c.operand.ensures.answers bound) c.in_err-left.was (search rules)

pub binary-returns-in_err-right : goal.binary-returns-in_err-right
unfolding answer_of
binary-returns-in_err-right t c bound ty =
    then_ok _ (c.operand.ensures.answers bound) c.in_ok-left.was
    (then_err _ (c.operand-2.ensures.answers bound) c.in_err-right.was (search rules))

pub binary-returns-in_err-result : goal.binary-returns-in_err-result
unfolding answer_of
binary-returns-in_err-result t c bound ty =
    then_ok _ (c.operand.ensures.answers bound) c.in_ok-left.was
    (then_ok _ (c.operand-2.ensures.answers bound) c.in_ok-right.was
    (then_err _ c.binary.ensures.answers c.in_err-result.was (search rules)))

pub binary-returns : goal.binary-returns
unfolding answer_of
binary-returns t c bound ty =
    then_ok _ (c.operand.ensures.answers bound) c.in_ok-left.was
    (then_ok _ (c.operand-2.ensures.answers bound) c.in_ok-right.was
    (then_ok _ c.binary.ensures.answers c.in_ok-result.was
    (gives (Some c.in_ok-result.result))))

pub assign-returns-in_err-place : goal.assign-returns-in_err-place
unfolding answer_of
assign-returns-in_err-place t c bound ty = then_err _ (c.place_of.ensures bound) c.in_err-place.was (search rules)

pub assign-returns-in_err-value : goal.assign-returns-in_err-value
unfolding answer_of
assign-returns-in_err-value t c bound ty =
    then_ok _ (c.place_of.ensures bound) c.in_ok-place.was
    (then_err _ (c.operand.ensures.answers bound) c.in_err-value.was (search rules))

pub assign-returns-in_err-put : goal.assign-returns-in_err-put
unfolding answer_of
assign-returns-in_err-put t c bound ty =
    then_ok _ (c.place_of.ensures bound) c.in_ok-place.was
    (then_ok _ (c.operand.ensures.answers bound) c.in_ok-value.was
    (then_err _ c.put.ensures c.in_err-put.was (search rules)))

pub assign-returns : goal.assign-returns
unfolding answer_of
assign-returns t c bound ty =
    then_ok _ (c.place_of.ensures bound) c.in_ok-place.was
    (then_ok _ (c.operand.ensures.answers bound) c.in_ok-value.was
    (then_ok _ c.put.ensures c.in_ok-put.was
    (gives_as (Some c.assigned.result) (ap Some (sym c.assigned.ensures)))))

pub compound-returns-in_err-place : goal.compound-returns-in_err-place
unfolding answer_of
compound-returns-in_err-place t c bound ty = then_err _ (c.place_of.ensures bound) c.in_err-place.was (search rules)

pub compound-returns-in_err-old : goal.compound-returns-in_err-old
unfolding answer_of
compound-returns-in_err-old t c bound ty =
    then_ok _ (c.place_of.ensures bound) c.in_ok-place.was
    (then_err _ c.old_value.ensures.answers c.in_err-old.was (search rules))

pub compound-returns-in_err-right : goal.compound-returns-in_err-right
unfolding answer_of
compound-returns-in_err-right t c bound ty =
    then_ok _ (c.place_of.ensures bound) c.in_ok-place.was
    (then_ok _ c.old_value.ensures.answers c.in_ok-old.was
    (then_err _ (c.operand.ensures.answers bound) c.in_err-right.was (search rules)))

pub compound-returns-in_err-result : goal.compound-returns-in_err-result
unfolding answer_of
compound-returns-in_err-result t c bound ty =
    then_ok _ (c.place_of.ensures bound) c.in_ok-place.was
    (then_ok _ c.old_value.ensures.answers c.in_ok-old.was
    (then_ok _ (c.operand.ensures.answers bound) c.in_ok-right.was
    (then_err _ c.update.ensures c.in_err-result.was (search rules))))

pub compound-returns : goal.compound-returns
unfolding answer_of
compound-returns t c bound ty =
    then_ok _ (c.place_of.ensures bound) c.in_ok-place.was
    (then_ok _ c.old_value.ensures.answers c.in_ok-old.was
    (then_ok _ (c.operand.ensures.answers bound) c.in_ok-right.was
    (then_ok _ c.update.ensures c.in_ok-result.was
    (gives (Some c.in_ok-result.result)))))

pub step-returns-in_err-place : goal.step-returns-in_err-place
unfolding answer_of
step-returns-in_err-place t c bound ty = then_err _ (c.place_of.ensures bound) c.in_err-place.was (search rules)

pub step-returns-in_err-result : goal.step-returns-in_err-result
unfolding answer_of
step-returns-in_err-result t c bound ty =
    then_ok _ (c.place_of.ensures bound) c.in_ok-place.was
    (then_err _ c.step.ensures c.in_err-result.was (search rules))

pub step-returns : goal.step-returns
unfolding answer_of
step-returns t c bound ty =
    then_ok _ (c.place_of.ensures bound) c.in_ok-place.was
    (then_ok _ c.step.ensures c.in_ok-result.was
    (gives (Some c.in_ok-result.result)))

pub converted-returns-in_err-answer : goal.converted-returns-in_err-answer
unfolding answer_of
converted-returns-in_err-answer t c bound = then_err _ (c.answer_of.ensures bound) c.in_err-answer.was (search rules)

pub converted-returns : goal.converted-returns
unfolding answer_of
converted-returns t c bound = then_ok _ (c.answer_of.ensures bound) c.in_ok-answer.was (c.cast.ensures.answers _)

pub placed-returns-in_err-place-clause-decays : goal.placed-returns-in_err-place-clause-decays
unfolding answer_of
placed-returns-in_err-place-clause-decays t c bound token ty = then_err _ (c.place_of.ensures bound) c.in_err-place.was (search rules)

pub placed-returns-clause-decays : goal.placed-returns-clause-decays
unfolding answer_of
placed-returns-clause-decays t c bound token ty = then_ok _ (c.place_of.ensures bound) c.in_ok-place.was (gives (Some c.in_ok-place.place))

pub placed-returns-in_err-place-clause-addresses : goal.placed-returns-in_err-place-clause-addresses
unfolding answer_of
placed-returns-in_err-place-clause-addresses t c bound token ty = then_err _ (c.place_of.ensures bound) c.in_err-place.was (search rules)

pub placed-returns-clause-addresses : goal.placed-returns-clause-addresses
unfolding answer_of
placed-returns-clause-addresses t c bound token ty = then_ok _ (c.place_of.ensures bound) c.in_ok-place.was (gives (Some c.in_ok-place.place))

pub member_place-returns-in_err-whole : goal.member_place-returns-in_err-whole
unfolding answer_of
member_place-returns-in_err-whole t c bound ty = then_err _ (c.place_of.ensures bound) c.in_err-whole.was (search rules)

pub member_place-returns : goal.member_place-returns
unfolding answer_of
member_place-returns t c bound ty = then_ok _ (c.place_of.ensures bound) c.in_ok-whole.was c.advance.ensures.answers

pub member-returns-in_err-place : goal.member-returns-in_err-place
unfolding answer_of
member-returns-in_err-place t c bound = then_err _ (c.member_place.ensures bound (view_qtype c.args.ty.now)) c.in_err-place.was (search rules)

pub member-returns : goal.member-returns
unfolding answer_of
member-returns t c bound = then_ok _ (c.member_place.ensures bound (view_qtype c.args.ty.now)) c.in_ok-place.was c.value_at.ensures.answers

pub through-returns-in_err-place : goal.through-returns-in_err-place
unfolding answer_of
through-returns-in_err-place t c bound = then_err _ (c.operand.ensures.answers bound) c.in_err-place.was (search rules)

pub through-returns : goal.through-returns
unfolding answer_of
through-returns t c bound = then_ok _ (c.operand.ensures.answers bound) c.in_ok-place.was c.value_at.ensures.answers
