use Rattle.std.proofs.Common.{◌≡◌, Err, List, rules, subst, sym}
use Rattle.pw_token.specs.declared.token.Token.{Token}
use Rattle.pw_cpp_expand.specs.AtHand.{IsWaiting}
use Rattle.pw_cpp_expand.proofs.ReadCalls.{call-closed, call-miscounted, call-open, call-unread, read-known}
use Rattle.pw_cpp_expand.proofs.expansion.read_call.Goals as goal

pub returns-in_err-found-clause-answers : goal.returns-in_err-found-clause-answers
returns-in_err-found-clause-answers c =
    call-unread c.args.ground.source.now c.args.ground.text.now c.args.mode c.args.parameters.now c.args.meaning.now.replacement c.args.place c.args.pending.now c.args.progress.now c.collect.new.pending c.collect.new.progress
    c.in_err-found.field-0.0 c.from_residual.result
    (let e : c.from_residual.result ≡ Err c.in_err-found.field-0.0 = first_of (search (rules, c.from_residual.ensures), cc (c.from_residual.ensures)) in e) c.in_err-found.ensures.answers

pub returns-in_default-clause-answers : goal.returns-in_default-clause-answers
returns-in_default-clause-answers c =
    call-open c.args.ground.source.now c.args.ground.text.now c.args.mode c.args.parameters.now c.args.meaning.now.replacement c.args.place c.args.pending.now c.args.progress.now c.collect.new.pending c.collect.new.progress
    c.in_ok-found.found c.in_ok-found.ensures.answers c.in_default.is

pub returns-in_default-used-clause-answers : goal.returns-in_default-used-clause-answers
returns-in_default-used-clause-answers c =
    call-miscounted c.args.ground.source.now c.args.ground.text.now c.args.mode c.args.parameters.now c.args.meaning.now.replacement c.args.place c.args.pending.now c.args.progress.now c.collect.new.pending c.collect.new.progress
    c.in_ok-found.found c.in_ok-found.ensures.answers c.in-Some.call c.in-Some.is c.in_ok-used.used
    (λ known.
    let P : List Token → Type 0 = λ x. IsWaiting c.args.ground.source.now known c.args.parameters.now x c.in-Some.call.arguments c.in_ok-used.used in
    subst P c.as_slice-replacement.ensures (c.in_ok-used.ensures.waits known)) c.in_default-used.is

pub returns-clause-answers : goal.returns-clause-answers
returns-clause-answers c =
    call-closed c.args.ground.source.now c.args.ground.text.now c.args.mode c.args.parameters.now c.args.meaning.now.replacement c.args.place c.args.pending.now c.args.progress.now c.collect.new.pending c.collect.new.progress
    c.in_ok-found.found c.in_ok-found.ensures.answers c.in-Some.call c.in-Some.is c.in_ok-used.used
    (λ known.
    let P : List Token → Type 0 = λ x. IsWaiting c.args.ground.source.now known c.args.parameters.now x c.in-Some.call.arguments c.in_ok-used.used in
    subst P c.as_slice-replacement.ensures (c.in_ok-used.ensures.waits known)) c.in-Some-used.waiting c.in-Some-used.is

pub returns-clause-known : goal.returns-clause-known
returns-clause-known c = λ known some h. (
  c.in_ok-found.ensures.known known some h,
  read-known known c.in_ok-found.found c.in-Some.call c.in_ok-used.used c.in-Some-used.waiting c.in-Some.is (c.in_ok-found.ensures.arguments known some h) c.in-Some-used.is (c.in_ok-used.ensures.known known),
)
