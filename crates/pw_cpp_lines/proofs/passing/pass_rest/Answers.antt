use Rattle.pw_cpp_lines.proofs.Walks.{rest-passed}
use Rattle.pw_cpp_lines.proofs.passing.pass_rest.Goals as goal

pub returns-clause-passed : goal.returns-clause-passed
returns-clause-passed c = rest-passed c.args.text.now c.args.at c.walk.result c.behind_line.result c.walk.ensures.walked c.behind_line.ensures
