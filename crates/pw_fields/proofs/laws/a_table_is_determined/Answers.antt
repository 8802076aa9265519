use Rattle.pw_fields.proofs.NameTables.{one_table}
use Rattle.pw_fields.proofs.laws.a_table_is_determined.Goals as goal

pub returns : goal.returns
returns c = one_table
