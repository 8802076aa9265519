use Rattle.pw_law_select_rows.proofs.Computing.{unary_computed, extension_computed, binary_computed}
use Rattle.pw_law_select_rows.proofs.rows_compute.Goals as goal

pub returns-clause-unary : goal.returns-clause-unary
returns-clause-unary c = unary_computed

pub returns-clause-extension : goal.returns-clause-extension
returns-clause-extension c = extension_computed

pub returns-clause-binary : goal.returns-clause-binary
returns-clause-binary c = binary_computed
