use Rattle.pw_db.proofs.DirectiveLaws as laws
use Rattle.pw_db.proofs.laws.directives_are_one.Goals as goal

pub returns : goal.returns
returns c = laws.directives_are_one
