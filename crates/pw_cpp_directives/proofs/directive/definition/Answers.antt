use Rattle.std.proofs.Common.{◌≡◌, subst, sym}
use Rattle.pw_cpp_directives.specs.Directives.{Fails, with_definition}
use Rattle.pw_cpp_directives.specs.Obeying.{IsFaultOf}
use Rattle.pw_cpp_directives.specs.declared.directive.Fault.{Fault}
use Rattle.pw_cpp_directives.proofs.Effects.{define-fault}
use Rattle.pw_cpp_directives.proofs.directive.definition.Goals as goal
use Rattle.pw_cpp_macros.specs.Definitions.{definition_of}

pub returns-in-Err-clause-fault : goal.returns-in-Err-clause-fault
returns-in-Err-clause-fault c = λ s.
    let P : Fault → Type 0 = λ x. IsFaultOf x (λ f. Fails f ≡ with_definition c.args.source.now s c.args.d.hash (definition_of c.args.source.now c.args.d.tokens.now)) in
    subst P (sym c.of_definition.ensures) (define-fault c.args.source.now s c.args.d.hash (definition_of c.args.source.now c.args.d.tokens.now) c.in-Err.fault c.in-Err.ensures)
