use Rattle.pw_build.proofs.BuildLaws.{one_build, one_count}
use Rattle.pw_build.proofs.laws.modules_have_one_build.Goals as goal

pub returns-clause-answer : goal.returns-clause-answer
returns-clause-answer c = one_build c.flow_graphs_have_one_answer.ensures.answer

pub returns-clause-count : goal.returns-clause-count
returns-clause-count c = one_count c.flow_graphs_have_one_answer.ensures.count
