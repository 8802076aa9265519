use Rattle.std.proofs.Common.{◌≡◌, List, Some, ap, false, refl, subst, sym, true, ◌∙◌}
use Rattle.std.proofs.lemmas.List.Elements.{All-get_or}
use Rattle.std.specs.Prelude.{bytes_eq}
use Rattle.pw_token.specs.Roles.{spelling}
use Rattle.pw_cpp_expand.specs.Numbered.{AreKnown, all_named}
use Rattle.pw_cpp_expand.specs.declared.progress.Lexeme.{Lexeme}
use Rattle.pw_cpp_expand.specs.declared.result.Expanded.{Expanded}
use Rattle.pw_cpp_expand.proofs.Results.{argument-later, argument-none, argument-there}
use Rattle.pw_cpp_expand.proofs.result.argument_of.Goals as goal

pub loop-argument-init : goal.loop-argument-init
loop-argument-init c = λ known. refl

pub returns-then-eq-clause-named : goal.returns-then-eq-clause-named
returns-then-eq-clause-named c =
    let same : bytes_eq c.args.name.now (spelling c.args.source.now c.argument-item.result.parameter) ≡ true = cc in
    λ known.
    ap (λ x. Some (all_named known x)) c.as_slice.ensures
    ∙ argument-there c.args.source.now known c.args.name.now c.args.arguments.now c.loop-argument.argument-index c.argument-item.result c.loop-argument-test.true c.argument-item.is same (c.loop-argument.invariant known)

pub returns-then-eq-clause-known : goal.returns-then-eq-clause-known
returns-then-eq-clause-known c = λ known h.
    let P : Expanded → Type 0 = λ x. AreKnown known x.tokens in
    let Q : List Lexeme → Type 0 = λ x. AreKnown known x in
    subst Q (sym c.as_slice.ensures)
    (subst P (sym c.argument-item.is) (All-get_or P c.args.arguments.now c.loop-argument.argument-index c.argument-item.result c.loop-argument-test.true h))

pub loop-argument-preserved : goal.loop-argument-preserved
loop-argument-preserved c =
    let differs : bytes_eq c.args.name.now (spelling c.args.source.now c.argument-item.result.parameter) ≡ false = cc in
    λ known. argument-later c.args.source.now known c.args.name.now c.args.arguments.now c.loop-argument.argument-index c.argument-item.result c.loop-argument-test.true c.argument-item.is differs (c.loop-argument.invariant known)

pub returns-clause-named : goal.returns-clause-named
returns-clause-named c = λ known.
    argument-none c.args.source.now known c.args.name.now c.args.arguments.now c.loop-argument.argument-index c.loop-argument-test.false (c.loop-argument.invariant known)
