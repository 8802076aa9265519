use Rattle.std.proofs.Common.{◌∙◌, not, Bool, sym, ap}
use Rattle.std.specs.List.{find}
use Rattle.pw_alloc_masks.specs.Masks.{in_mask}
use Rattle.pw_alloc_temps.specs.Registers.{of_temporaries}
use Rattle.pw_alloc_registers.proofs.colouring.first_free.Goals as goal

pub returns-then-held-clause-first : goal.returns-then-held-clause-first
returns-then-held-clause-first c = λ cs mask. c.first_unshared.ensures.first cs mask ∙ ap (λ (held : Bool). find (λ r. not (in_mask c.args.away r)) (of_temporaries cs held)) (sym c.if-held.true)

pub returns-else-held-clause-first : goal.returns-else-held-clause-first
returns-else-held-clause-first c = λ cs mask. c.first_of_all.ensures.first cs mask ∙ ap (λ (held : Bool). find (λ r. not (in_mask c.args.away r)) (of_temporaries cs held)) (sym c.if-held.false)
