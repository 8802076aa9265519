use Rattle.std.proofs.Common.{subst}
use Rattle.pw_types.specs.Records.{IsLaid}
use Rattle.pw_types.proofs.types.Types.records.Goals as goal

pub returns-clause-laid : goal.returns-clause-laid
returns-clause-laid c = subst IsLaid c.self.view_is c.self.invariant
