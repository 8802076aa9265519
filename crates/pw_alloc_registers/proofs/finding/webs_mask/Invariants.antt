use Rattle.std.proofs.Common.{map, take}
use Rattle.pw_alloc_registers.specs.Masks.{IsMaskOf}
use Rattle.pw_alloc_registers.proofs.finding.webs_mask.Given as goal

abbrev pub invariant-loop-web : goal.invariant-loop-web
invariant-loop-web l = IsMaskOf l.mask (map (λ w. w.0.reg) (take l.web-index l.webs))
