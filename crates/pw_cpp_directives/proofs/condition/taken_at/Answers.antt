use Rattle.std.proofs.Common.{◌≡◌, refl, sym, ◌∙◌}
use Rattle.pw_cpp_directives.proofs.Judging.{defined-taken, malformed-taken, plain-taken}
use Rattle.pw_cpp_directives.proofs.condition.taken_at.Goals as goal

pub returns-then-not-is_spelled-clause-value : goal.returns-then-not-is_spelled-clause-value
returns-then-not-is_spelled-clause-value c = λ known empty.
    plain-taken c.args.source.now c.args.macros.now c.args.digits known empty c.args.token c.args.rest.now c.fresh.result (sym c.is_spelled.ensures ∙ c.if-not-is_spelled.true) c.fresh.ensures

pub returns-in-Some-clause-value : goal.returns-in-Some-clause-value
returns-in-Some-clause-value c = λ known empty.
    defined-taken c.args.source.now c.args.macros.now c.args.digits known empty c.args.token c.args.rest.now c.said.result _ _ (sym c.is_spelled.ensures ∙ c.if-not-is_spelled.false) c.in-Some.ensures.value c.said.ensures

pub returns-in-None-clause-value : goal.returns-in-None-clause-value
returns-in-None-clause-value c = λ known empty.
    malformed-taken c.args.source.now c.args.macros.now c.args.digits c.args.token c.args.rest.now (sym c.is_spelled.ensures ∙ c.if-not-is_spelled.false) c.in-None.ensures.value
