use Rattle.std.proofs.Common.{◌≡◌, ◌+◌, ◌-◌, ◌++◌}
use Rattle.pw_db.specs.Limits.{first_register, last_register, register_count}
use Rattle.pw_select.specs.Selection.{stored_back, entered_lines}
use Rattle.pw_select.proofs.webs.put_webs_stored.Given as goal

abbrev pub invariant-loop-r : goal.invariant-loop-r
invariant-loop-r l = l.out ++ entered_lines stored_back l.webs l.r (last_register + 1 - l.r) ≡ l.fn.out ++ entered_lines stored_back l.webs first_register register_count
