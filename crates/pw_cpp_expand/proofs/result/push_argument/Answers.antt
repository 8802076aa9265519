use Rattle.std.proofs.Common.{◌≡◌, ◌<◌, length, refl, subst, sym, ◌∙◌, arith}
use Rattle.std.proofs.lemmas.List.{get_or_default}
use Rattle.std.proofs.lemmas.List.Elements.{All-get_or}
use Rattle.pw_cpp_expand.specs.declared.progress.Lexeme.{Lexeme}
use Rattle.pw_cpp_expand.proofs.Results.{added-none, joined-new, own-known, passed-all, passed-more}
use Rattle.pw_cpp_expand.proofs.result.push_argument.Goals as goal

pub joined-requires-clause-other : goal.joined-requires-clause-other
joined-requires-clause-other c = omega (arith, c.requires.hidden)

pub loop-lexeme-init : goal.loop-lexeme-init
loop-lexeme-init c =
    let made = c.in_ok-number.ensures in (
      joined-new c.args.sets.now _ c.args.replaced.hidden 0 c.in_ok-number.number made.keeps c.requires.hidden (omega (arith, c.requires.hidden)) made.number.0 made.number.1,
      added-none c.args.sets.now _ c.args.made.now made.keeps c.requires.made,
    )

pub joined_with-requires-clause-hidden : goal.joined_with-requires-clause-hidden
joined_with-requires-clause-hidden c = omega (arith, c.requires.hidden, c.loop-lexeme.invariant.1.0.count)

pub joined_with-requires-clause-own : goal.joined_with-requires-clause-own
joined_with-requires-clause-own c =
    own-known c.args.sets.now c.loop-lexeme.sets c.args.argument.now c.loop-lexeme.lexeme-index _ c.loop-lexeme-test.true c.requires.argument c.loop-lexeme.invariant.1.0.count

pub joined_with-requires-clause-last : goal.joined_with-requires-clause-last
joined_with-requires-clause-last c = c.loop-lexeme.invariant.0

pub loop-lexeme-preserved : goal.loop-lexeme-preserved
loop-lexeme-preserved c =
    let next = c.in_ok-last.ensures in (
      next.1,
      passed-more c.args.sets.now c.args.replaced.hidden c.args.replaced.place c.args.argument.now c.requires.hidden c.requires.argument c.loop-lexeme.sets _ c.args.made.now c.loop-lexeme.made _
          c.loop-lexeme.lexeme-index _ _ c.loop-lexeme-test.true (get_or_default _ _ _ _ c.loop-lexeme-test.true) c.loop-lexeme.invariant.1 next.0 next.1 next.2 c.in_ok-push.ensures,
    )

pub returns : goal.returns
returns c = passed-all c.args.sets.now c.args.replaced.hidden c.args.replaced.place c.args.argument.now c.requires.hidden c.requires.argument c.loop-lexeme.sets c.args.made.now c.loop-lexeme.made c.loop-lexeme.lexeme-index c.loop-lexeme-test.false c.loop-lexeme.invariant.1
