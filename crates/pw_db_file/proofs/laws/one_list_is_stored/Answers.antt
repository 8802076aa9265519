use Rattle.pw_db.proofs.StoringLaws.{one_stored}
use Rattle.pw_db_file.proofs.DatabaseLaws as laws
use Rattle.pw_db_file.proofs.laws.one_list_is_stored.Goals as goal

pub returns-clause-one_list : goal.returns-clause-one_list
returns-clause-one_list c = one_stored

pub returns-clause-one_payload : goal.returns-clause-one_payload
returns-clause-one_payload c = laws.one_stored_payload
