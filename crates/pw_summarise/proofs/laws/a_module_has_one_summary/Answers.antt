use Rattle.pw_summarise.proofs.UniqueLaws.{one_summary}
use Rattle.pw_summarise.proofs.laws.a_module_has_one_summary.Goals as goal

pub returns : goal.returns
returns c = one_summary
