use Rattle.pw_io.proofs.FileMaps.{get-insert_same, get-remove_same, get-insert_other, get-remove_other, get-left}
use Rattle.pw_io.proofs.laws.other_files.Goals as goal

pub returns-clause-inserted : goal.returns-clause-inserted
returns-clause-inserted c = get-insert_same

pub returns-clause-removed : goal.returns-clause-removed
returns-clause-removed c = get-remove_same

pub returns-clause-insertion : goal.returns-clause-insertion
returns-clause-insertion c = get-insert_other

pub returns-clause-removal : goal.returns-clause-removal
returns-clause-removal c = get-remove_other

pub returns-clause-failure : goal.returns-clause-failure
returns-clause-failure c = get-left
