use Rattle.std.proofs.Common.{◌∙◌, ◌++◌, ℕ, not, sym}
use Rattle.pw_alloc_temps.specs.Registers.{changed_registers, shared, unshared}
use Rattle.pw_alloc_masks.specs.Masks.{in_mask}
use Rattle.pw_alloc_registers.proofs.Choosing.{find_first, find_second}
use Rattle.pw_alloc_registers.proofs.colouring.first_of_all.Goals as goal

pub returns-in-Some-clause-first : goal.returns-in-Some-clause-first
returns-in-Some-clause-first c = λ cs mask.
    let p = λ (r : ℕ). not (in_mask c.args.away r) in
    sym (find_first p changed_registers (shared cs ++ unshared cs) c.in-Some.r (sym c.first_in.ensures.first ∙ c.in-Some.is))

pub returns-in-None-clause-first : goal.returns-in-None-clause-first
returns-in-None-clause-first c = λ cs mask.
    let p = λ (r : ℕ). not (in_mask c.args.away r) in
    c.first_kept.ensures.first cs mask ∙ sym (find_second p changed_registers (shared cs ++ unshared cs) (sym c.first_in.ensures.first ∙ c.in-None.is))
