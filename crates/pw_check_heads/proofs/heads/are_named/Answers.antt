use Rattle.std.proofs.Common.{sym, ◌∙◌}
use Rattle.pw_check_heads.proofs.LocalLaws.{named_end, named_more, unnamed_there}
use Rattle.pw_check_heads.proofs.heads.are_named.Goals as goal

pub returns-then-not-has_name : goal.returns-then-not-has_name
returns-then-not-has_name c =
    sym
    (c.loop-parameter.invariant
    ∙ unnamed_there c.args.parameters.now c.loop-parameter.parameter-index c.parameter-item.result c.loop-parameter-test.true c.parameter-item.is
    (sym c.has_name.ensures ∙ c.if-not-has_name.true))

pub loop-parameter-preserved : goal.loop-parameter-preserved
loop-parameter-preserved c =
    c.loop-parameter.invariant
    ∙ named_more c.args.parameters.now c.loop-parameter.parameter-index c.parameter-item.result c.loop-parameter-test.true c.parameter-item.is
    (sym c.has_name.ensures ∙ c.if-not-has_name.false)

pub returns : goal.returns
returns c = sym (c.loop-parameter.invariant ∙ named_end c.args.parameters.now c.loop-parameter.parameter-index c.loop-parameter-test.false)
