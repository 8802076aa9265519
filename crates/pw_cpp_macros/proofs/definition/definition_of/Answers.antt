use Rattle.std.proofs.Common.{sym, ◌∙◌}
use Rattle.pw_cpp_macros.proofs.ParameterLaws.{behind-first, listed-answer, plain-answer}
use Rattle.pw_cpp_macros.proofs.definition.definition_of.Goals as goal

pub returns-then-opens_parameters : goal.returns-then-opens_parameters
returns-then-opens_parameters c =
    listed-answer c.args.text.now c.args.tokens.now _ _ c.in-len1-up.len_at_least (sym c.is_word.ensures ∙ c.if-not-is_word.false) _ (behind-first c.args.tokens.now)
    c.in-len1-up-rest.len_at_least c.opens_parameters.result c.opens_parameters.ensures c.if-opens_parameters.true _
    (behind-first _) c.with_list.result c.with_list.ensures

pub returns : goal.returns
returns c =
    plain-answer c.args.text.now c.args.tokens.now _ _ c.in-len1-up.len_at_least (sym c.is_word.ensures ∙ c.if-not-is_word.false) _ (behind-first c.args.tokens.now)
    c.in-len1-up-rest.len_at_least c.opens_parameters.result c.opens_parameters.ensures c.if-opens_parameters.false
    c.with_replacement-2.result c.with_replacement-2.ensures
