use Rattle.pw_db_file.proofs.DatabaseLaws as laws
use Rattle.pw_db_file.proofs.laws.databases_and_payloads_are_one_to_one.Goals as goal

pub returns-clause-one_database : goal.returns-clause-one_database
returns-clause-one_database c = laws.one_list

pub returns-clause-one_payload : goal.returns-clause-one_payload
returns-clause-one_payload c = laws.one_payload
