use Rattle.std.proofs.Common.{arith}
use Rattle.std.proofs.lemmas.List.{get_or_default}
use Rattle.pw_cpp_expand.proofs.Kept.{arguments-on}
use Rattle.pw_cpp_expand.proofs.Results.{becomes-kept, made-all, made-more, made-none}
use Rattle.pw_cpp_expand.proofs.result.result_of.Goals as goal

pub loop-token-init : goal.loop-token-init
loop-token-init c = made-none c.args.sets.now c.new-made.result c.new-made.ensures

pub push_replaced-requires-clause-hidden : goal.push_replaced-requires-clause-hidden
push_replaced-requires-clause-hidden c = omega (arith, c.requires.hidden, c.loop-token.invariant.0.count)

pub push_replaced-requires-clause-argument : goal.push_replaced-requires-clause-argument
push_replaced-requires-clause-argument c =
    c.argument_for-argument.ensures.known c.loop-token.sets (arguments-on c.args.sets.now c.loop-token.sets c.loop-token.invariant.0 c.args.arguments.now c.requires.arguments)

pub push_replaced-requires-clause-made : goal.push_replaced-requires-clause-made
push_replaced-requires-clause-made c = c.loop-token.invariant.1

pub loop-token-preserved : goal.loop-token-preserved
loop-token-preserved c =
    made-more c.args.source.now c.args.sets.now c.args.replaced.hidden c.args.replaced.place c.args.arguments.now c.args.replacement.now c.loop-token.sets _ c.loop-token.made _ c.loop-token.token-index _ _
    c.loop-token-test.true (get_or_default _ _ _ _ c.loop-token-test.true) c.loop-token.invariant c.in_ok-push_replaced.ensures
    (becomes-kept c.args.source.now c.args.sets.now c.args.replaced.hidden c.args.replaced.place c.args.arguments.now c.args.replacement.now c.loop-token.sets c.requires.hidden c.requires.arguments
    c.loop-token.invariant.0 _ _ (c.argument_for-argument.ensures.named c.loop-token.sets))

pub returns : goal.returns
returns c = made-all c.args.source.now c.args.sets.now c.args.replaced.hidden c.args.replaced.place c.args.arguments.now c.args.replacement.now c.loop-token.sets c.loop-token.made c.loop-token.token-index c.loop-token-test.false c.loop-token.invariant
