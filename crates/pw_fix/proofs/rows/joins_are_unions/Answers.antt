use Rattle.pw_fix.proofs.Unions.{join_is_union}
use Rattle.pw_fix.proofs.rows.joins_are_unions.Goals as goal

pub returns : goal.returns
returns c = join_is_union
