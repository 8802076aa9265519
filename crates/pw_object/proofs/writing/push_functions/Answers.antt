use Rattle.std.proofs.Common.{sym, subst}
use Rattle.pw_object.specs.Functions.{IsFunctionNamed}
use Rattle.pw_object.proofs.writing.push_functions.Goals as goal

pub push_function-requires-clause-stand : goal.push_function-requires-clause-stand
push_function-requires-clause-stand c = subst (λ f. IsFunctionNamed c.args.names.now f) (sym c.function-item.is) (c.requires.stand c.loop-function.function-index _ c.loop-function-test.true)
