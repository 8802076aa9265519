use Rattle.std.proofs.Common.{ap}
use Rattle.pw_cpp_directives.proofs.directive.Standing.innermost.Goals as goal

pub returns-in-Some-clause-taken : goal.returns-in-Some-clause-taken
returns-in-Some-clause-taken c = ap (λ x. record c.args.self.now { sections = x }) c.in-Some.ensures
