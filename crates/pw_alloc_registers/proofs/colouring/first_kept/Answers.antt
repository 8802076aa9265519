use Rattle.std.proofs.Common.{◌&&◌, ◌∙◌, ℕ, not, Bool, sym, ap}
use Rattle.pw_live.specs.Liveness.{has}
use Rattle.pw_db.specs.Limits.{kept_registers}
use Rattle.pw_alloc_temps.specs.Registers.{shared, unshared}
use Rattle.pw_alloc_masks.specs.Masks.{in_mask}
use Rattle.pw_alloc_registers.proofs.Choosing.{find_among, find_first, find_second}
use Rattle.pw_alloc_registers.proofs.colouring.first_kept.Goals as goal

pub returns-in-Some-clause-first : goal.returns-in-Some-clause-first
returns-in-Some-clause-first c = λ cs mask.
    let p = λ (r : ℕ). not (in_mask c.args.away r) in
    let among = find_among (λ r. in_mask c.args.cluster r && p r) (λ r. has r cs) p kept_registers (λ r. ap (λ (b : Bool). b && p r) (mask r)) in
    sym (find_first p (shared cs) (unshared cs) c.in-Some.r (sym among ∙ sym c.first_shared.ensures.first ∙ c.in-Some.is))

pub returns-in-None-clause-first : goal.returns-in-None-clause-first
returns-in-None-clause-first c = λ cs mask.
    let p = λ (r : ℕ). not (in_mask c.args.away r) in
    let among = find_among (λ r. in_mask c.args.cluster r && p r) (λ r. has r cs) p kept_registers (λ r. ap (λ (b : Bool). b && p r) (mask r)) in
    c.first_unshared.ensures.first cs mask ∙ sym (find_second p (shared cs) (unshared cs) (sym among ∙ sym c.first_shared.ensures.first ∙ c.in-None.is))
