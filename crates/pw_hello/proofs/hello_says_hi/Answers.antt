use Rattle.pw_hello.proofs.Running.{hello_runs}
use Rattle.pw_hello.proofs.hello_says_hi.Goals as goal

pub returns : goal.returns
returns c = hello_runs
