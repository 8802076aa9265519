use Rattle.std.proofs.Common.{◌≡◌, ap, subst, sym}
use Rattle.pw_cpp_directives.specs.Obeying.{IsFaultOf, standing_of}
use Rattle.pw_cpp_directives.specs.Directives.{Fails, with_macros}
use Rattle.pw_cpp_directives.specs.declared.directive.Fault.{Fault}
use Rattle.pw_cpp_directives.proofs.Effects.{macro-failed}
use Rattle.pw_cpp_directives.proofs.directive.Standing.add.Goals as goal
use Rattle.pw_cpp_macros.specs.Macros.{defined}

pub returns-in-Ok-clause-does : goal.returns-in-Ok-clause-does
returns-in-Ok-clause-does c = sym (ap (with_macros (standing_of c.args.self.now) c.args.place) c.in-Ok.ensures)

pub returns-in-Err-clause-does : goal.returns-in-Err-clause-does
returns-in-Err-clause-does c =
    let P : Fault → Type 0 = λ x. IsFaultOf x (λ f. Fails f ≡ with_macros (standing_of c.args.self.now) c.args.place (defined c.args.source.now c.args.self.now.macros c.args.definition)) in
    subst P (sym c.of_macro.ensures) (macro-failed (standing_of c.args.self.now) c.args.place _ c.in-Err.fault c.in-Err.ensures.1)
