use Rattle.std.proofs.Common.{sym, subst}
use Rattle.std.specs.Prelude.{Contains}
use Rattle.pw_image.proofs.writing.push_functions.Goals as goal

pub push_function-requires-clause-stands : goal.push_function-requires-clause-stands
push_function-requires-clause-stands c = subst (λ x. Contains c.args.names.now x.name) (sym c.function-item.is) (c.requires.stand c.loop-function.function-index _ c.loop-function-test.true)
