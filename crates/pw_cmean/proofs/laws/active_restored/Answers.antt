use Rattle.pw_cmean.proofs.RunLaws.{expression_restores, statement_restores, call_restores}
use Rattle.pw_cmean.proofs.laws.active_restored.Goals as goal

pub returns-clause-expressions : goal.returns-clause-expressions
returns-clause-expressions c = λ w n a e s. (expression_restores w n a e s)

pub returns-clause-statements : goal.returns-clause-statements
returns-clause-statements c = λ w n a at e s. (statement_restores w n a at e s)

pub returns-clause-calls : goal.returns-clause-calls
returns-clause-calls c = λ w n f args s. (call_restores w n f args s)
