use Rattle.pw_law_opt_answers.proofs.Forming.{module_form}
use Rattle.pw_law_opt_answers.proofs.laws.modules_have_optimised_forms.Goals as goal

pub returns : goal.returns
returns c = module_form c.solutions_exist.ensures c.transfers_rise.ensures.constants c.transfers_rise.ensures.copies
