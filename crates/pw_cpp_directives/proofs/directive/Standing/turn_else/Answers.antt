use Rattle.std.proofs.Common.{◌≡◌, Err, ap, inr, reverse, rules, sym, ◌∙◌}
use Rattle.pw_cpp_directives.specs.Directives.{Fails, else_effect}
use Rattle.pw_cpp_directives.specs.Obeying.{IsDoneBy, standing_of}
use Rattle.pw_cpp_directives.proofs.Effects.{else-alone, else-done, else-late, else-tokens, handed-on, none-there, some-there}
use Rattle.pw_cpp_directives.proofs.directive.Standing.turn_else.Goals as goal

pub returns-then-not-is_empty-clause-does : goal.returns-then-not-is_empty-clause-does
returns-then-not-is_empty-clause-does c =
    inr (ap Fails c.faulty.ensures ∙ sym (else-tokens (standing_of c.args.self.now) c.args.d.hash c.args.d.tokens.now _ (some-there c.args.d.tokens.now c.is_empty.result c.is_empty.ensures c.if-not-is_empty.true)))

pub returns-in_err-section-clause-does : goal.returns-in_err-section-clause-does
returns-in_err-section-clause-does c =
    handed-on (IsDoneBy (λ effect. effect ≡ else_effect (standing_of c.args.self.now) c.args.d.hash c.args.d.tokens.now (reverse c.args.self.now.sections)) c.innermost.new.self) c.in_err-section.field-0.0 c.from_residual.result
    (let e : c.from_residual.result ≡ Err c.in_err-section.field-0.0 = first_of (search (rules, c.from_residual.ensures), cc (c.from_residual.ensures)) in e)
    (else-alone c.args.self.now c.args.d.hash c.in_err-section.field-0.0 c.in_err-section.ensures.fault.0 c.in_err-section.ensures.fault.1 c.args.d.tokens.now (none-there c.args.d.tokens.now c.is_empty.result c.is_empty.ensures c.if-not-is_empty.false))

pub returns-then-section-clause-does : goal.returns-then-section-clause-does
returns-then-section-clause-does c =
    else-late c.args.self.now c.innermost.new.self c.in_ok-section.section c.in_ok-section.ensures.taken c.args.d.hash c.args.d.tokens.now c.faulty-then-section.result
    (none-there c.args.d.tokens.now c.is_empty.result c.is_empty.ensures c.if-not-is_empty.false) c.if-section.true c.faulty-then-section.ensures

pub returns-clause-does : goal.returns-clause-does
returns-clause-does c =
    else-done c.args.self.now c.innermost.new.self c.in_ok-section.section c.in_ok-section.ensures.taken c.args.d.hash c.args.d.tokens.now c.open.new.self c.with_else.result c.open.result
    (none-there c.args.d.tokens.now c.is_empty.result c.is_empty.ensures c.if-not-is_empty.false) c.if-section.false c.with_else.ensures c.open.ensures.opened c.open.ensures.fault
