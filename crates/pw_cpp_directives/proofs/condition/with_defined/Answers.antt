use Rattle.std.proofs.Common.{◌≡◌, List, subst, sym, arith}
use Rattle.pw_token.specs.declared.token.Token.{Token}
use Rattle.pw_cpp_directives.proofs.Judging.{IsTaken, fewer-left, first-and-rest, no-rest, none-known, taken-all, taken-known, taken-not, taken-on, taken-start}
use Rattle.pw_cpp_directives.proofs.condition.with_defined.Goals as goal

pub loop-left-init : goal.loop-left-init
loop-left-init c =
    (λ known empty. taken-start c.args.source.now c.args.macros.now c.args.digits known c.args.tokens.now c.new-taken.result c.new-taken.ensures, none-known c.new-taken.result c.new-taken.ensures)

pub returns-in_default-found-clause-taken : goal.returns-in_default-found-clause-taken
returns-in_default-found-clause-taken c = λ known empty.
    taken-not c.args.source.now c.args.macros.now c.args.digits known c.args.tokens.now c.loop-left.left.now _ _ c.loop-left.taken c.taken_at-found.result
    (first-and-rest c.loop-left.left.now _ c.in-len1-up.len_at_least) (c.taken_at-found.ensures.value known empty) (c.loop-left.invariant.0 known empty) c.in_default-found.is

pub loop-left-preserved : goal.loop-left-preserved
loop-left-preserved c = (
  λ known empty.
      let P : List Token → Type 0 = λ x. IsTaken c.args.source.now c.args.macros.now c.args.digits known c.args.tokens.now c.push.new.self x in
      subst P (sym c.tokens_from-left.ensures)
      (taken-on c.args.source.now c.args.macros.now c.args.digits known c.args.tokens.now c.loop-left.left.now _ _ c.loop-left.taken c.taken_at-found.result
      (first-and-rest c.loop-left.left.now _ c.in-len1-up.len_at_least) (c.taken_at-found.ensures.value known empty) (c.loop-left.invariant.0 known empty)
      c.in-Some.one.0 c.in-Some.one.1 c.push.new.self c.in-Some.is c.in_ok-push.ensures),
  taken-known c.loop-left.taken _ c.in-Some.one.0 c.loop-left.invariant.1 (rw c.in-Some.is at c.taken_at-found.ensures.within).0 c.in_ok-push.ensures,
)

pub returns-clause-taken : goal.returns-clause-taken
returns-clause-taken c = λ known empty.
    taken-all c.args.source.now c.args.macros.now c.args.digits known c.args.tokens.now c.loop-left.left.now c.loop-left.taken (no-rest c.loop-left.left.now c.in_default.len_below) (c.loop-left.invariant.0 known empty)

pub loop-left-smaller : goal.loop-left-smaller
loop-left-smaller c = fewer-left c.loop-left.left.now _ c.in-Some.one.1 c.in-len1-up.len_at_least c.tokens_from-left.ensures
