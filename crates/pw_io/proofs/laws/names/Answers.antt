use Rattle.pw_io.proofs.FileMaps.{keys-order, keys-exact}
use Rattle.pw_io.proofs.laws.names.Goals as goal

pub returns-clause-order : goal.returns-clause-order
returns-clause-order c = keys-order

pub returns-clause-exact : goal.returns-clause-exact
returns-clause-exact c = keys-exact
