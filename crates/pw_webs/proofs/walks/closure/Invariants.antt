use Rattle.std.proofs.Common.{◌+◌, ◌-◌, vec_len}
use Rattle.pw_fix.specs.Row.{member_count}
use Rattle.pw_webs.proofs.WalkLaws.{IsWalk}
use Rattle.pw_webs.proofs.walks.closure.Given as goal

abbrev pub invariant-loop-place : goal.invariant-loop-place
invariant-loop-place l = IsWalk l.steps l.within l.fn.from l.found l.waiting.items

abbrev pub decreases-loop-place : goal.decreases-loop-place
decreases-loop-place l = vec_len l.waiting + (l.found.len - member_count l.found)
