use Rattle.std.proofs.Common.{◌≡◌, ◌+◌, ◌-◌, ◌++◌}
use Rattle.pw_db.specs.Limits.{first_register, last_register, register_count}
use Rattle.pw_allocate.specs.Saving.{saved_from}
use Rattle.pw_allocate.proofs.saving.saved.Given as goal

abbrev pub invariant-loop-r : goal.invariant-loop-r
invariant-loop-r l = l.saved ++ saved_from l.directives l.registers l.r (last_register + 1 - l.r) ≡ saved_from l.directives l.registers first_register register_count
