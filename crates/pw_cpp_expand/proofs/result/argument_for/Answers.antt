use Rattle.std.proofs.Common.{ap, map, sym, ◌∙◌}
use Rattle.pw_cpp_expand.specs.AtHand.{argument_named}
use Rattle.pw_cpp_expand.specs.Expansion.{argument_of}
use Rattle.pw_cpp_expand.proofs.Results.{no-argument, word-argument}
use Rattle.pw_cpp_expand.proofs.result.argument_for.Goals as goal

pub returns-then-not-is_word-clause-named : goal.returns-then-not-is_word-clause-named
returns-then-not-is_word-clause-named c = λ known.
    no-argument c.args.source.now (map (argument_named c.args.source.now known) c.args.arguments.now) c.args.token (sym c.is_word.ensures ∙ c.if-not-is_word.true)

pub returns-clause-named : goal.returns-clause-named
returns-clause-named c = λ known.
    c.argument_of.ensures.named known
    ∙ ap (argument_of (map (argument_named c.args.source.now known) c.args.arguments.now)) c.spelled.ensures
    ∙ word-argument c.args.source.now (map (argument_named c.args.source.now known) c.args.arguments.now) c.args.token (sym c.is_word.ensures ∙ c.if-not-is_word.false)

pub returns-clause-known : goal.returns-clause-known
returns-clause-known c = λ known h. c.argument_of.ensures.known known h
