use Rattle.std.proofs.Common.{take}
use Rattle.pw_webs.specs.Walking.{IsVisit}
use Rattle.pw_webs.proofs.walks.visit.Given as goal

abbrev pub invariant-loop-place : goal.invariant-loop-place
invariant-loop-place l = IsVisit (take l.place-index l.row) l.within l.fn.found l.found l.fn.waiting.items l.waiting.items
