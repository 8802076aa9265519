use Rattle.std.proofs.Common.{◌-◌, Some, drop, length, rules, sym, take, ◌∙◌}
use Rattle.pw_cpp_macros.specs.Definitions.{Parameters, with_replacement}
use Rattle.pw_cpp_macros.proofs.ParameterLaws.{behind-first, broken-answer, closed-answer, empty-answer, fault-answer, open-answer, parts-on}
use Rattle.pw_cpp_macros.proofs.definition.with_parameters.Goals as goal

pub returns-in_err-add_parameter : goal.returns-in_err-add_parameter
returns-in_err-add_parameter c =
    fault-answer c.args.text.now c.loop-left.names c.args.tokens.now (λ (list : Parameters). with_replacement c.args.text.now c.args.name (Some list.0) list.1) c.loop-left.left.now _ c.in_err-add_parameter.field-0.0 c.from_residual.result
    (first_of (search (rules, c.from_residual.ensures), cc (c.from_residual.ensures))) c.loop-left.invariant c.in-len1-up.len_at_least c.in_err-add_parameter.ensures.fault

pub returns-in_default-after : goal.returns-in_default-after
returns-in_default-after c =
    open-answer c.args.text.now c.loop-left.names c.args.tokens.now (λ (list : Parameters). with_replacement c.args.text.now c.args.name (Some list.0) list.1) c.add_parameter.new.names _
    c.loop-left.left.now c.loop-left.invariant c.in-len1-up.len_at_least c.in_ok-add_parameter.ensures.added _ (behind-first c.loop-left.left.now) c.in_default-after.len_below

pub returns-then-is_spelled : goal.returns-then-is_spelled
returns-then-is_spelled c =
    closed-answer c.args.text.now c.loop-left.names c.args.tokens.now (λ (list : Parameters). with_replacement c.args.text.now c.args.name (Some list.0) list.1) c.add_parameter.new.names _
    c.loop-left.left.now c.loop-left.invariant c.in-len1-up.len_at_least c.in_ok-add_parameter.ensures.added _ (behind-first c.loop-left.left.now) _ c.in-len1-up-after.len_at_least _
    (behind-first (take (length c.loop-left.left.now - 1) (drop 1 c.loop-left.left.now))) c.with_replacement.result (sym c.is_spelled.ensures ∙ c.if-is_spelled.true) c.with_replacement.ensures

pub returns-then-not-is_spelled : goal.returns-then-not-is_spelled
returns-then-not-is_spelled c =
    broken-answer c.args.text.now c.loop-left.names c.args.tokens.now (λ (list : Parameters). with_replacement c.args.text.now c.args.name (Some list.0) list.1) c.add_parameter.new.names _
    c.loop-left.left.now c.loop-left.invariant c.in-len1-up.len_at_least c.in_ok-add_parameter.ensures.added _ (behind-first c.loop-left.left.now) _ c.in-len1-up-after.len_at_least
    (sym c.is_spelled.ensures ∙ c.if-is_spelled.false) (sym c.is_spelled-in-len1-up.ensures ∙ c.if-not-is_spelled.true)

pub loop-left-preserved : goal.loop-left-preserved
loop-left-preserved c =
    parts-on c.args.text.now c.loop-left.names c.args.tokens.now (λ (list : Parameters). with_replacement c.args.text.now c.args.name (Some list.0) list.1) c.add_parameter.new.names _
    c.loop-left.left.now c.loop-left.invariant c.in-len1-up.len_at_least c.in_ok-add_parameter.ensures.added _ (behind-first c.loop-left.left.now) _ c.in-len1-up-after.len_at_least _
    (behind-first (take (length c.loop-left.left.now - 1) (drop 1 c.loop-left.left.now))) (sym c.is_spelled.ensures ∙ c.if-is_spelled.false) (sym c.is_spelled-in-len1-up.ensures ∙ c.if-not-is_spelled.false)

pub returns : goal.returns
returns c = empty-answer c.args.text.now c.loop-left.names c.args.tokens.now (λ (list : Parameters). with_replacement c.args.text.now c.args.name (Some list.0) list.1) c.loop-left.left.now c.loop-left.invariant c.in_default.len_below
