use Rattle.pw_law_select_rows.proofs.Places.{operand_loaded, temporary_loaded}
use Rattle.pw_law_select_rows.proofs.operands_are_loaded.Goals as goal

pub returns-clause-operand : goal.returns-clause-operand
returns-clause-operand c = operand_loaded

pub returns-clause-temporary : goal.returns-clause-temporary
returns-clause-temporary c = temporary_loaded
