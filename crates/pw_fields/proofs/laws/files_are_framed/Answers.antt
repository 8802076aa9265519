use Rattle.pw_fields.proofs.FileLaws.{any_again}
use Rattle.pw_fields.proofs.laws.files_are_framed.Goals as goal

pub returns-clause-again : goal.returns-clause-again
returns-clause-again c = any_again
