use Rattle.pw_cpp_macros.proofs.Lawful.{parameters-lawful}
use Rattle.pw_cpp_macros.proofs.laws.parameters_are_apart.Goals as goal

pub returns : goal.returns
returns c = λ text tokens definition e. parameters-lawful text tokens definition e
