use Rattle.pw_law_link.proofs.OneAnswer.{not_both, one_fault}
use Rattle.pw_law_link.proofs.laws.objects_have_one_answer.Goals as goal

pub returns-clause-not_both : goal.returns-clause-not_both
returns-clause-not_both c = not_both c.modules_have_one_answer.ensures.not_both

pub returns-clause-one_fault : goal.returns-clause-one_fault
returns-clause-one_fault c = one_fault c.modules_have_one_answer.ensures.not_both c.modules_have_one_answer.ensures.one_fault
