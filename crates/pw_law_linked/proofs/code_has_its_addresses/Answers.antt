use Rattle.pw_law_linked.proofs.Relocated.{words_there, named_there, limit_there, routine_there}
use Rattle.pw_law_linked.proofs.code_has_its_addresses.Goals as goal

pub returns-clause-words : goal.returns-clause-words
returns-clause-words c = words_there

pub returns-clause-names : goal.returns-clause-names
returns-clause-names c = named_there

pub returns-clause-limit : goal.returns-clause-limit
returns-clause-limit c = limit_there

pub returns-clause-routines : goal.returns-clause-routines
returns-clause-routines c = routine_there
