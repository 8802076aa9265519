use Rattle.pw_check_walk.proofs.walk_laws.one_answer.Goals as goal
use Rattle.pw_check_walk.proofs.WalkLaws.{one_answer}

-- src/laws.rt:9:1
pub returns : goal.returns
returns g c = one_answer
