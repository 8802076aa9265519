use Rattle.std.proofs.Common.{ap, ◌∙◌, arith}
use Rattle.std.proofs.lemmas.List.{get_or_default}
use Rattle.pw_cpp_directives.proofs.Judging.{items-all, items-not, items-on, items-start}
use Rattle.pw_cpp_directives.proofs.condition.items_of.Goals as goal
use Rattle.pw_cpp_condition.specs.Words.{item_of}

pub loop-lexeme-init : goal.loop-lexeme-init
loop-lexeme-init c = λ known. items-start c.args.source.now known c.args.tokens.now c.new-items.result c.new-items.ensures

pub returns-in_default : goal.returns-in_default
returns-in_default c = λ known.
    items-not c.args.source.now known c.args.tokens.now c.loop-lexeme.items c.loop-lexeme.lexeme-index _ c.in_ok-found.found c.loop-lexeme-test.true (get_or_default _ _ _ _ c.loop-lexeme-test.true)
    (c.in_ok-found.ensures ∙ ap (item_of _) c.spelled.ensures) (c.loop-lexeme.invariant known) c.in_default.is

pub loop-lexeme-preserved : goal.loop-lexeme-preserved
loop-lexeme-preserved c = λ known.
    items-on c.args.source.now known c.args.tokens.now c.loop-lexeme.items c.loop-lexeme.lexeme-index _ c.in_ok-found.found c.loop-lexeme-test.true (get_or_default _ _ _ _ c.loop-lexeme-test.true)
    (c.in_ok-found.ensures ∙ ap (item_of _) c.spelled.ensures) (c.loop-lexeme.invariant known) c.in-Some.item _ c.in-Some.is c.in_ok-push.ensures

pub returns : goal.returns
returns c = λ known. items-all c.args.source.now known c.args.tokens.now c.loop-lexeme.items c.loop-lexeme.lexeme-index c.loop-lexeme-test.false (c.loop-lexeme.invariant known)
