use Rattle.std.proofs.Common.{◌≡◌, ◌++◌, take}
use Rattle.std.specs.List.{flat_map}
use Rattle.pw_fields.specs.Fields.{u8}
use Rattle.pw_db_sharing.proofs.writing.push_registers.Given as goal

abbrev pub invariant-loop-register : goal.invariant-loop-register
invariant-loop-register l = l.out.items ≡ l.fn.out.items ++ flat_map (u8) (take l.register-index l.registers)
