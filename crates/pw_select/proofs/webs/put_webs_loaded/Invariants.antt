use Rattle.std.proofs.Common.{◌≡◌, ◌+◌, ◌-◌, ◌++◌}
use Rattle.pw_db.specs.Limits.{first_register, last_register, register_count}
use Rattle.pw_select.specs.Selection.{loaded_web, entered_lines}
use Rattle.pw_select.proofs.webs.put_webs_loaded.Given as goal

abbrev pub invariant-loop-r : goal.invariant-loop-r
invariant-loop-r l = l.out ++ entered_lines loaded_web l.webs l.r (last_register + 1 - l.r) ≡ l.fn.out ++ entered_lines loaded_web l.webs first_register register_count
