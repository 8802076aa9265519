use Rattle.std.proofs.Common.{◌≡◌, ap, Some, Ok, Err, rules, refl, subst, sym, arith}
use Rattle.pw_cpp_expand.specs.Lookahead.{Fault, Nothing, ReadsOn, Tokens, directive, ends, reads}
use Rattle.pw_cpp_expand.specs.Numbered.{AnswersFurther}
use Rattle.pw_cpp_expand.specs.declared.progress.Progress.{Progress}
use Rattle.pw_cpp_expand.proofs.ReadingOn.{hash-within, leads-from, leads-on, rest-on}
use Rattle.pw_cpp_expand.proofs.Turning.{fault-on, fault-weaker}
use Rattle.pw_cpp_expand.proofs.ahead.read_on.Goals as goal

pub loop-at-init : goal.loop-at-init
loop-at-init c = (c.requires, λ further h. h, refl)

pub returns-in_err-tokens-in-Text-clause-answers : goal.returns-in_err-tokens-in-Text-clause-answers
returns-in_err-tokens-in-Text-clause-answers c =
    fault-on (AnswersFurther c.args.text.now c.args.progress.now _) c.in_err-tokens-in-Text.field-0.0 c.from_residual.result
    (let e : c.from_residual.result ≡ Err c.in_err-tokens-in-Text.field-0.0 = first_of (search (rules, c.from_residual.ensures), cc (c.from_residual.ensures)) in e)
    (fault-weaker (λ f. ReadsOn c.args.text.now c.loop-at.at c.loop-at.progress (Fault f)) (λ f. ReadsOn c.args.text.now c.args.progress.now.next c.args.progress.now (Fault f)) _
    (λ f h. leads-from c.args.text.now c.loop-at.at c.args.progress.now c.loop-at.progress c.loop-at.invariant.2 c.loop-at.invariant.1 (Fault f) h) c.in_err-tokens-in-Text.ensures.answers)

pub returns-in_err-tokens-in-Text-clause-within : goal.returns-in_err-tokens-in-Text-clause-within
returns-in_err-tokens-in-Text-clause-within c = c.in_err-tokens-in-Text.ensures.within (omega (arith, c.requires, ap (λ (p : Progress). p.next) c.loop-at.invariant.2))

pub returns-in-Text-clause-answers : goal.returns-in-Text-clause-answers
returns-in-Text-clause-answers c =
    leads-from c.args.text.now c.loop-at.at c.args.progress.now c.loop-at.progress c.loop-at.invariant.2 c.loop-at.invariant.1 (Tokens c.in_ok-tokens-in-Text.tokens _) c.in_ok-tokens-in-Text.ensures.answers

pub returns-in-Text-clause-within : goal.returns-in-Text-clause-within
returns-in-Text-clause-within c = c.in_ok-tokens-in-Text.ensures.within (omega (arith, c.requires, ap (λ (p : Progress). p.next) c.loop-at.invariant.2))

pub returns-in-Directive-clause-answers : goal.returns-in-Directive-clause-answers
returns-in-Directive-clause-answers c = (
  c.loop-at.invariant.2,
  c.loop-at.invariant.1 Nothing
      (reads c.loop-at.at c.args.progress.now _ Nothing c.loop-at-test.true c.in-Directive.ensures (directive c.loop-at.at c.args.progress.now _ _)),
)

pub returns-in-Directive-clause-within : goal.returns-in-Directive-clause-within
returns-in-Directive-clause-within c = omega (arith, c.requires, ap (λ (p : Progress). p.next) c.loop-at.invariant.2)

pub pass_rest-at-requires : goal.pass_rest-at-requires
pass_rest-at-requires c = omega (arith, (hash-within c.args.text.now c.loop-at.at c.in-Marker.hash c.in-Marker.ensures).1)

pub loop-at-preserved : goal.loop-at-preserved
loop-at-preserved c = (
  c.pass_rest-at.ensures.within,
  leads-on c.args.text.now c.loop-at.at c.in-Marker.hash c.pass_rest-at.result c.args.progress.now c.loop-at-test.true c.in-Marker.ensures c.pass_rest-at.ensures.passed c.loop-at.invariant.1,
  c.loop-at.invariant.2,
)

pub loop-at-smaller : goal.loop-at-smaller
loop-at-smaller c =
    let inside = hash-within c.args.text.now c.loop-at.at c.in-Marker.hash c.in-Marker.ensures in
    omega (arith, inside.0, inside.1, c.loop-at-test.true, rest-on c.args.text.now c.in-Marker.hash c.pass_rest-at.result c.pass_rest-at.ensures.passed inside.1)

pub returns-clause-answers : goal.returns-clause-answers
returns-clause-answers c = (c.loop-at.invariant.2, c.loop-at.invariant.1 Nothing (ends c.loop-at.at c.args.progress.now (omega arith)))

pub returns-clause-within : goal.returns-clause-within
returns-clause-within c = omega (arith, c.requires, ap (λ (p : Progress). p.next) c.loop-at.invariant.2)
