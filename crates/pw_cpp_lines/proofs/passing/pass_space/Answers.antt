use Rattle.pw_cpp_lines.proofs.Walks.{space-passed}
use Rattle.pw_cpp_lines.proofs.passing.pass_space.Goals as goal

pub returns-clause-passed : goal.returns-clause-passed
returns-clause-passed c = space-passed c.args.text.now c.args.at c.walk.result c.walk.ensures.walked
