use Rattle.std.proofs.Common.{◌≡◌, Err, refl, rules, subst, sym}
use Rattle.pw_cpp.specs.Answers.{AnswersStep, AnswersTokens, DoesTokens, DoesWhole}
use Rattle.pw_cpp_sources.specs.Sources.{digits_of}
use Rattle.pw_cpp.proofs.Steps.{obeys-done, obeys-fault, obeys-unlexed}
use Rattle.pw_cpp.proofs.reader.Reader.obey.Goals as goal

pub returns-in_err-line-clause-steps : goal.returns-in_err-line-clause-steps
returns-in_err-line-clause-steps c = λ f read.
    let e : c.from_residual.result ≡ Err c.in_err-line.field-0.0 = first_of (search (rules, c.from_residual.ensures), cc (c.from_residual.ensures)) in
    subst (AnswersStep c.args.self.now c.args.self.now (DoesWhole c.args.self.now.source.now digits_of f c.args.hash c.args.name)) (sym e)
    (obeys-unlexed c.args.self.now c.args.self.now (record { source = refl; files = refl; spans = refl; file = refl; out = refl; size = refl }) f c.args.text.now read digits_of c.args.hash c.args.name
    c.in_err-line.field-0.0 c.in_err-line.ensures.lexes)

pub returns-in_err-obey_tokens-clause-steps : goal.returns-in_err-obey_tokens-clause-steps
returns-in_err-obey_tokens-clause-steps c = λ f read.
    let e : c.from_residual-in_err-obey_tokens.result ≡ Err c.in_err-obey_tokens.field-0.0 =
    first_of (search (rules, c.from_residual-in_err-obey_tokens.ensures), cc (c.from_residual-in_err-obey_tokens.ensures)) in
    subst (AnswersStep c.args.self.now c.obey_tokens.new.self (DoesWhole c.args.self.now.source.now digits_of f c.args.hash c.args.name)) (sym e)
    (obeys-fault c.args.self.now c.obey_tokens.new.self c.obey_tokens.ensures.still f c.args.text.now read digits_of c.args.hash c.args.name c.in_ok-line.line c.in_ok-line.ensures.lexes
    c.in_err-obey_tokens.field-0.0 (search (rules, c.in_err-obey_tokens.ensures.steps, c.name_in.ensures, c.as_slice.ensures)))

pub returns-clause-steps : goal.returns-clause-steps
returns-clause-steps c = λ f read.
    obeys-done c.args.self.now c.obey_tokens.new.self c.obey_tokens.ensures.still f c.args.text.now read digits_of c.args.hash c.args.name c.in_ok-line.line c.in_ok-line.ensures.lexes
    c.in_ok-obey_tokens.field-0 (search (rules, c.in_ok-obey_tokens.ensures.steps, c.name_in.ensures, c.as_slice.ensures))

pub returns-clause-within : goal.returns-clause-within
returns-clause-within c = (c.in_ok-obey_tokens.ensures.within, c.in_ok-line.ensures.within, c.in_ok-line.ensures.behind.1 c.requires.place)
