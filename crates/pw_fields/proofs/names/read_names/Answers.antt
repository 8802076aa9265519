use Rattle.std.proofs.Common.{arith}
use Rattle.pw_fields.proofs.NameTables.{table_within}
use Rattle.pw_fields.proofs.names.read_names.Goals as goal

pub returns-clause-within : goal.returns-clause-within
returns-clause-within c = table_within c.args.bytes.now c.read_counted.result (λ i. omega (arith, c.type_inv.bytes i)) c.read_counted.ensures
