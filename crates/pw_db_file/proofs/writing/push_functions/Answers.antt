use Rattle.std.proofs.Common.{sym, subst}
use Rattle.pw_db_file.specs.Spelling.{IsNamedBy}
use Rattle.pw_db_file.proofs.writing.push_functions.Goals as goal

pub push_function-requires-clause-stand : goal.push_function-requires-clause-stand
push_function-requires-clause-stand c = subst (λ f. IsNamedBy c.args.names.now f.now) (sym c.function-item.is) (c.requires.stand c.loop-function.function-index _ c.loop-function-test.true)
