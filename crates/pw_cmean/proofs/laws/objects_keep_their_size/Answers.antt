use Rattle.pw_cmean.proofs.RunLaws.{expression_keeps, statement_keeps, call_keeps}
use Rattle.pw_cmean.proofs.laws.objects_keep_their_size.Goals as goal

pub returns-clause-expressions : goal.returns-clause-expressions
returns-clause-expressions c = λ w n a e s. (expression_keeps w n a e s).objects

pub returns-clause-statements : goal.returns-clause-statements
returns-clause-statements c = λ w n a at e s. (statement_keeps w n a at e s).objects

pub returns-clause-calls : goal.returns-clause-calls
returns-clause-calls c = λ w n f args s. (call_keeps w n f args s).objects
