use Rattle.std.proofs.Common.{◌≡◌, length}
use Rattle.pw_select.specs.Selection.{entered_web}
use Rattle.pw_select.proofs.webs.entered_web.Given as goal

abbrev pub invariant-loop-rest : goal.invariant-loop-rest
invariant-loop-rest l = entered_web l.rest l.r ≡ entered_web l.webs l.r

abbrev pub decreases-loop-rest : goal.decreases-loop-rest
decreases-loop-rest l = length l.rest
