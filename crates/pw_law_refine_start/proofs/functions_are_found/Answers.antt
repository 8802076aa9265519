use Rattle.pw_law_refine_start.proofs.Named.{functions-found}
use Rattle.pw_law_refine_start.proofs.Numbers.{numbers-found}
use Rattle.pw_law_refine_start.proofs.OneName.{numbered-named}
use Rattle.pw_law_refine_start.proofs.functions_are_found.Goals as goal

pub returns-clause-names : goal.returns-clause-names
returns-clause-names c = functions-found

pub returns-clause-numbers : goal.returns-clause-numbers
returns-clause-numbers c = numbers-found

pub returns-clause-own : goal.returns-clause-own
returns-clause-own c = numbered-named
