use Rattle.pw_law_select_rows.proofs.Scalars.{scalar_loaded, scalar_stored, global_read, global_written, one_stored, two_stored}
use Rattle.pw_law_select_rows.proofs.scalars_move.Goals as goal

pub returns-clause-loaded : goal.returns-clause-loaded
returns-clause-loaded c = scalar_loaded

pub returns-clause-stored : goal.returns-clause-stored
returns-clause-stored c = scalar_stored

pub returns-clause-read : goal.returns-clause-read
returns-clause-read c = global_read

pub returns-clause-written : goal.returns-clause-written
returns-clause-written c = global_written

pub returns-clause-one : goal.returns-clause-one
returns-clause-one c = one_stored

pub returns-clause-two : goal.returns-clause-two
returns-clause-two c = two_stored
