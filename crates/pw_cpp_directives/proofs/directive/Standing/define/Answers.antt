use Rattle.std.proofs.Common.{◌≡◌, Err, ap, rules, subst, sym}
use Rattle.pw_cpp_directives.specs.Directives.{Effect, with_definition}
use Rattle.pw_cpp_directives.specs.Obeying.{IsDoneBy, standing_of}
use Rattle.pw_cpp_directives.proofs.Effects.{handed-on}
use Rattle.pw_cpp_directives.proofs.directive.Standing.define.Goals as goal
use Rattle.pw_cpp_macros.specs.Definitions.{definition_of}

pub returns-in_err-found-clause-does : goal.returns-in_err-found-clause-does
returns-in_err-found-clause-does c =
    handed-on (IsDoneBy (λ effect. effect ≡ with_definition c.args.source.now (standing_of c.args.self.now) c.args.d.hash (definition_of c.args.source.now c.args.d.tokens.now)) c.args.self.now)
    c.in_err-found.field-0.0 c.from_residual.result (let e : c.from_residual.result ≡ Err c.in_err-found.field-0.0 = first_of (search (rules, c.from_residual.ensures), cc (c.from_residual.ensures)) in e) (c.in_err-found.ensures.fault (standing_of c.args.self.now))

pub returns-clause-does : goal.returns-clause-does
returns-clause-does c =
    let P : Effect → Type 0 = λ w. IsDoneBy (λ effect. effect ≡ w) c.add.new.self c.add.result in
    subst P (sym (ap (with_definition c.args.source.now (standing_of c.args.self.now) c.args.d.hash) c.in_ok-found.ensures.found)) c.add.ensures.does
