use Rattle.pw_io.proofs.KeptFiles.{files_of-none, files_of-more}
use Rattle.pw_io.proofs.LastEntries.{left_by_call-none, left_by_call-last}
use Rattle.pw_io.proofs.laws.last_entry.Goals as goal

pub returns-clause-no_file : goal.returns-clause-no_file
returns-clause-no_file c = files_of-none

pub returns-clause-file : goal.returns-clause-file
returns-clause-file c = files_of-more

pub returns-clause-no_fail : goal.returns-clause-no_fail
returns-clause-no_fail c = left_by_call-none

pub returns-clause-fail : goal.returns-clause-fail
returns-clause-fail c = left_by_call-last
