use Rattle.pw_law_lower_walk.proofs.Among.{among}
use Rattle.pw_law_lower_walk.proofs.each_operation.Goals as goal

pub returns : goal.returns
returns c = λ objects functions home records f h. among objects functions home records f h
