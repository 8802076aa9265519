use Rattle.pw_db_file.proofs.DatabaseLaws as laws
use Rattle.pw_db_file.proofs.laws.databases_and_files_are_one_to_one.Goals as goal

pub returns-clause-one_database : goal.returns-clause-one_database
returns-clause-one_database c = laws.one_database

pub returns-clause-one_file : goal.returns-clause-one_file
returns-clause-one_file c = laws.one_file

pub returns-clause-one_new_file : goal.returns-clause-one_new_file
returns-clause-one_new_file c = laws.one_new_file
