use Rattle.pw_where.proofs.Loads.{no_load_fault}
use Rattle.pw_where.proofs.looking.machine_of.Goals as goal

pub unreachable-requires : goal.unreachable-requires
unreachable-requires c = absurd (no_load_fault c.args.bytes.now c.in-Err-LoadFault.field-0 c.in-Err-LoadFault.field-0-0 c.in-Err-LoadFault.field-0-is c.requires c.in-Err-LoadFault.ensures.only)
