use Rattle.std.proofs.Common.{◌≡◌, Err, refl, rules}
use Rattle.pw_cpp_directives.specs.Directives.{one_name, with_test}
use Rattle.pw_cpp_directives.specs.Obeying.{standing_of}
use Rattle.pw_cpp_directives.proofs.Effects.{name-missing, opened-done, tested}
use Rattle.pw_cpp_directives.proofs.directive.Standing.test.Goals as goal

pub returns-in_err-name-clause-does : goal.returns-in_err-name-clause-does
returns-in_err-name-clause-does c =
    name-missing (with_test c.args.wanted (standing_of c.args.self.now) c.args.d.hash) c.args.self.now c.args.d.hash (one_name c.args.source.now c.args.d.tokens.now) c.in_err-name.field-0.0 c.from_residual.result
    (let e : c.from_residual.result ≡ Err c.in_err-name.field-0.0 = first_of (search (rules, c.from_residual.ensures), cc (c.from_residual.ensures)) in e) c.in_err-name.ensures.0 c.in_err-name.ensures.1 refl

pub returns-clause-does : goal.returns-clause-does
returns-clause-does c =
    opened-done (λ effect. effect ≡ with_test c.args.wanted (standing_of c.args.self.now) c.args.d.hash (one_name c.args.source.now c.args.d.tokens.now)) c.args.self.now c.open.new.self c.opened.result c.open.result
    c.open.ensures.opened c.open.ensures.fault
    (tested (standing_of c.args.self.now) c.args.wanted c.args.d.hash (one_name c.args.source.now c.args.d.tokens.now) _ c.is_as_wanted-holds.result c.opened.result c.in_ok-name.ensures c.is_as_wanted-holds.ensures c.opened.ensures)
