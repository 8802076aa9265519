use Rattle.pw_commands_where.proofs.WhereLemmas.{where_ends}
use Rattle.pw_commands_where.proofs.laws.looks_leave_an_end.Goals as goal

pub returns : goal.returns
returns c = λ files opts k input effect d. where_ends files opts k input effect d
