use Rattle.std.proofs.Common.{◌≡◌, ◌++◌, drop, map}
use Rattle.pw_typed.specs.Views.{view_declared}
use Rattle.pw_check_result.proofs.ResultLaws.{all_declared}
use Rattle.pw_check_result.proofs.results.declared_in.Given as goal

-- those so far and those of the rest
abbrev pub invariant-loop-next : goal.invariant-loop-next
invariant-loop-next l = map view_declared l.declared.items ++ all_declared (drop l.next-index l.linked) ≡ all_declared l.linked
