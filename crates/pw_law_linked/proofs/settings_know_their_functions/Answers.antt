use Rattle.pw_law_linked.proofs.Names.{all_found}
use Rattle.pw_law_linked.proofs.Known.{long_is, mark_is, returns_behind}
use Rattle.pw_law_linked.proofs.settings_know_their_functions.Goals as goal

pub returns-clause-found : goal.returns-clause-found
returns-clause-found c = all_found

pub returns-clause-long : goal.returns-clause-long
returns-clause-long c = long_is

pub returns-clause-marks : goal.returns-clause-marks
returns-clause-marks c = mark_is

pub returns-clause-behind : goal.returns-clause-behind
returns-clause-behind c = returns_behind
