use Rattle.std.proofs.Common.{◌≡◌, Err, ap, inr, reverse, rules, sym, ◌∙◌}
use Rattle.pw_cpp_directives.specs.Directives.{Fails, endif_effect}
use Rattle.pw_cpp_directives.specs.Obeying.{IsDoneBy, standing_of}
use Rattle.pw_cpp_directives.proofs.Effects.{end-alone, end-done, end-tokens, handed-on, none-there, some-there}
use Rattle.pw_cpp_directives.proofs.directive.Standing.end.Goals as goal

pub returns-then-not-is_empty-clause-does : goal.returns-then-not-is_empty-clause-does
returns-then-not-is_empty-clause-does c =
    inr (ap Fails c.faulty.ensures ∙ sym (end-tokens (standing_of c.args.self.now) c.args.d.hash c.args.d.tokens.now _ (some-there c.args.d.tokens.now c.is_empty.result c.is_empty.ensures c.if-not-is_empty.true)))

pub returns-in_err-innermost-clause-does : goal.returns-in_err-innermost-clause-does
returns-in_err-innermost-clause-does c =
    handed-on (IsDoneBy (λ effect. effect ≡ endif_effect (standing_of c.args.self.now) c.args.d.hash c.args.d.tokens.now (reverse c.args.self.now.sections)) c.innermost.new.self) c.in_err-innermost.field-0.0 c.from_residual.result
    (let e : c.from_residual.result ≡ Err c.in_err-innermost.field-0.0 = first_of (search (rules, c.from_residual.ensures), cc (c.from_residual.ensures)) in e)
    (end-alone c.args.self.now c.args.d.hash c.in_err-innermost.field-0.0 c.in_err-innermost.ensures.fault.0 c.in_err-innermost.ensures.fault.1 c.args.d.tokens.now (none-there c.args.d.tokens.now c.is_empty.result c.is_empty.ensures c.if-not-is_empty.false))

pub returns-clause-does : goal.returns-clause-does
returns-clause-does c =
    end-done c.args.self.now c.innermost.new.self _ c.in_ok-innermost.ensures.taken c.args.d.hash c.args.d.tokens.now (none-there c.args.d.tokens.now c.is_empty.result c.is_empty.ensures c.if-not-is_empty.false)
