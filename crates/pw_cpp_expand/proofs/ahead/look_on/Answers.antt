use Rattle.std.proofs.Common.{◌≡◌, ◌∙◌, Err, rules, sym, arith}
use Rattle.std.proofs.lemmas.Bool.{false≢true}
use Rattle.pw_cpp_expand.specs.Lookahead.{Fault, Faulty, LooksAhead, ReadsOn, Tokens}
use Rattle.pw_cpp_expand.specs.Numbered.{AnswersAhead, HaveEmpty, at_hand}
use Rattle.pw_cpp_expand.specs.declared.progress.Mode.TheVariants.{InText}
use Rattle.pw_cpp_sets.specs.Sets.{Known}
use Rattle.pw_cpp_expand.proofs.ReadingOn.{hand-here, looks-faulty, looks-more, looks-none, next-reads, reads-further}
use Rattle.pw_cpp_expand.proofs.Turning.{fault-on, fault-weaker}
use Rattle.pw_cpp_expand.proofs.ahead.look_on.Goals as goal

pub loop-alloc-init : goal.loop-alloc-init
loop-alloc-init c = (c.requires, λ known empty found h. h, λ known some h. h)

pub read_on-requires : goal.read_on-requires
read_on-requires c = c.loop-alloc.invariant.0

pub returns-in_err-found-clause-answers : goal.returns-in_err-found-clause-answers
returns-in_err-found-clause-answers c =
    fault-on (AnswersAhead c.args.text.now InText c.args.pending.now c.args.progress.now c.loop-alloc.pending c.read_on.new.progress) c.in_err-found.field-0.0 c.from_residual.result
    (let e : c.from_residual.result ≡ Err c.in_err-found.field-0.0 = first_of (search (rules, c.from_residual.ensures), cc (c.from_residual.ensures)) in e)
    (fault-weaker (λ f. ReadsOn c.args.text.now c.loop-alloc.progress.next c.loop-alloc.progress (Fault f))
    (λ f. (known : Known) → HaveEmpty known → LooksAhead c.args.text.now InText (at_hand known c.args.pending.now) c.args.progress.now (Faulty f)) _
    (λ f h. looks-faulty c.args.text.now c.args.pending.now c.args.progress.now c.loop-alloc.pending c.loop-alloc.progress c.loop-alloc.invariant.1 (c.is_empty.ensures.0 c.loop-alloc-test.true) f h)
    c.in_err-found.ensures.answers)

pub returns-in_default-clause-answers : goal.returns-in_default-clause-answers
returns-in_default-clause-answers c =
    looks-none c.args.text.now c.args.pending.now c.args.progress.now c.loop-alloc.pending c.loop-alloc.progress _ c.loop-alloc.invariant.1 (c.is_empty.ensures.0 c.loop-alloc-test.true) c.in_ok-found.found
    c.in_default.is c.in_ok-found.ensures.answers

pub loop-alloc-preserved : goal.loop-alloc-preserved
loop-alloc-preserved c = (
  c.in_ok-found.ensures.within,
  looks-more c.args.text.now c.args.pending.now c.args.progress.now c.loop-alloc.pending c.loop-alloc.progress c.loop-alloc.invariant.1 (c.is_empty.ensures.0 c.loop-alloc-test.true) _ _ c.in-Some.tokens
      c.in_ok-put_fresh.ensures.put (next-reads c.args.text.now c.loop-alloc.progress _ c.in_ok-found.found c.in-Some.tokens c.in-Some.is c.in_ok-found.ensures.answers),
  λ known some h. c.in_ok-put_fresh.ensures.known known some (c.loop-alloc.invariant.2 known some h),
)

pub loop-alloc-smaller : goal.loop-alloc-smaller
loop-alloc-smaller c =
    let reads = next-reads c.args.text.now c.loop-alloc.progress c.read_on.new.progress c.in_ok-found.found c.in-Some.tokens c.in-Some.is c.in_ok-found.ensures.answers in
    let further = reads-further c.args.text.now c.loop-alloc.progress.next c.loop-alloc.progress (Tokens c.in-Some.tokens c.read_on.new.progress) reads in
    omega (arith, further, c.in_ok-found.ensures.within)

pub returns-clause-answers : goal.returns-clause-answers
returns-clause-answers c = λ known empty.
    c.loop-alloc.invariant.1 known empty _
    (hand-here c.args.text.now c.loop-alloc.progress known c.loop-alloc.pending (λ e. false≢true (sym c.loop-alloc-test.false ∙ c.is_empty.ensures.1 e)))
