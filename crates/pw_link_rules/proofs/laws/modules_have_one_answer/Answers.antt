use Rattle.pw_link_rules.proofs.OneAnswer.{not_both, one_fault}
use Rattle.pw_link_rules.proofs.laws.modules_have_one_answer.Goals as goal

pub returns-clause-not_both : goal.returns-clause-not_both
returns-clause-not_both c = not_both

pub returns-clause-one_fault : goal.returns-clause-one_fault
returns-clause-one_fault c = one_fault
