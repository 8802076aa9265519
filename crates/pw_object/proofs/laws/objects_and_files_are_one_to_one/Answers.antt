use Rattle.pw_object.proofs.ObjectLaws as laws
use Rattle.pw_object.proofs.laws.objects_and_files_are_one_to_one.Goals as goal

pub returns-clause-one_object : goal.returns-clause-one_object
returns-clause-one_object c = laws.one_object

pub returns-clause-one_file : goal.returns-clause-one_file
returns-clause-one_file c = laws.one_file
