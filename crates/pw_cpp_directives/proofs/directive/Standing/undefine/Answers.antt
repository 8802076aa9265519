use Rattle.std.proofs.Common.{◌≡◌, Err, refl, rules}
use Rattle.pw_cpp_directives.specs.Directives.{one_name, with_undefined}
use Rattle.pw_cpp_directives.specs.Obeying.{standing_of}
use Rattle.pw_cpp_directives.proofs.Effects.{name-missing, undefined-does}
use Rattle.pw_cpp_directives.proofs.directive.Standing.undefine.Goals as goal

pub returns-in_err-name-clause-does : goal.returns-in_err-name-clause-does
returns-in_err-name-clause-does c =
    name-missing (with_undefined (standing_of c.args.self.now) c.args.d.hash) c.args.self.now c.args.d.hash (one_name c.args.source.now c.args.d.tokens.now) c.in_err-name.field-0.0 c.from_residual.result
    (let e : c.from_residual.result ≡ Err c.in_err-name.field-0.0 = first_of (search (rules, c.from_residual.ensures), cc (c.from_residual.ensures)) in e) c.in_err-name.ensures.0 c.in_err-name.ensures.1 refl

pub returns-clause-does : goal.returns-clause-does
returns-clause-does c =
    undefined-does (standing_of c.args.self.now) c.args.d.hash (one_name c.args.source.now c.args.d.tokens.now) _ _ c.in_ok-name.ensures c.undefine.ensures
