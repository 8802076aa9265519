use Rattle.pw_object.proofs.FunctionLaws.{function_spells, lawful}
use Rattle.pw_object.proofs.laws.functions_are_spelled.Goals as goal

pub returns-clause-spelled : goal.returns-clause-spelled
returns-clause-spelled c names bytes f rest table fits e = ((function_spells names table).takes bytes f rest fits e).0

pub returns-clause-lawful : goal.returns-clause-lawful
returns-clause-lawful c names bytes f rest table fits e = lawful names f ((function_spells names table).takes bytes f rest fits e).1
