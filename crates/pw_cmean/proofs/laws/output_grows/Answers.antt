use Rattle.pw_cmean.proofs.RunLaws.{expression_keeps, statement_keeps, call_keeps, run-written}
use Rattle.pw_cmean.proofs.laws.output_grows.Goals as goal

pub returns-clause-expressions : goal.returns-clause-expressions
returns-clause-expressions c = λ w n a e s. (expression_keeps w n a e s).later.written

pub returns-clause-statements : goal.returns-clause-statements
returns-clause-statements c = λ w n a at e s. (statement_keeps w n a at e s).later.written

pub returns-clause-calls : goal.returns-clause-calls
returns-clause-calls c = λ w n f args s. (call_keeps w n f args s).later.written

pub returns-clause-runs : goal.returns-clause-runs
returns-clause-runs c = run-written
