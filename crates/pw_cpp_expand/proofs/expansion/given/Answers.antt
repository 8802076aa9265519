use Rattle.std.proofs.Common.{[], sym, ◌∙◌}
use Rattle.std.proofs.lemmas.Bool.{false≢true}
use Rattle.std.proofs.lemmas.List.Elements.{All-nil}
use Rattle.pw_cpp_expand.specs.Numbered.{AreKnown}
use Rattle.pw_cpp_expand.proofs.Results.{given-rest, given-some, none-there, nothing, some-there}
use Rattle.pw_cpp_expand.proofs.expansion.given.Goals as goal

pub returns-then-not-is_empty-clause-named : goal.returns-then-not-is_empty-clause-named
returns-then-not-is_empty-clause-named c = λ known.
    given-some known c.args.parameters.now c.args.arguments (some-there c.args.parameters.now c.is_empty.result c.is_empty.ensures c.if-not-is_empty.true)

pub returns-then-is_one_empty-clause-named : goal.returns-then-is_one_empty-clause-named
returns-then-is_one_empty-clause-named c = λ known. nothing known c.args.parameters.now c.args.arguments _ (none-there c.args.parameters.now c.is_empty.result c.is_empty.ensures c.if-not-is_empty.false) (c.is_one_empty.ensures.0 c.if-is_one_empty.true) c.new.ensures

pub returns-clause-named : goal.returns-clause-named
returns-clause-named c = λ known. given-rest known c.args.parameters.now c.args.arguments (λ e. false≢true (sym c.if-is_one_empty.false ∙ c.is_one_empty.ensures.1 e))
