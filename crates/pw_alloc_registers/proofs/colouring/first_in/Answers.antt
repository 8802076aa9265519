use Rattle.std.proofs.Common.{◌∙◌, ℕ, not, refl, sym}
use Rattle.pw_alloc_masks.specs.Masks.{in_mask}
use Rattle.pw_alloc_registers.proofs.Choosing.{find_here, find_next, find_end}
use Rattle.pw_alloc_registers.proofs.colouring.first_in.Goals as goal

pub loop-r-init : goal.loop-r-init
loop-r-init c = refl

pub returns-then-is_free-clause-first : goal.returns-then-is_free-clause-first
returns-then-is_free-clause-first c =
    let p = λ (r : ℕ). not (in_mask c.args.away r) in
    sym (sym c.loop-r.invariant ∙ find_here p c.loop-r.r c.args.to c.loop-r-test.true (sym c.is_free.ensures ∙ c.if-is_free.true))

pub loop-r-preserved : goal.loop-r-preserved
loop-r-preserved c =
    let p = λ (r : ℕ). not (in_mask c.args.away r) in
    sym (find_next p c.loop-r.r c.args.to c.loop-r-test.true (sym c.is_free.ensures ∙ c.if-is_free.false)) ∙ c.loop-r.invariant

pub returns-clause-first : goal.returns-clause-first
returns-clause-first c =
    let p = λ (r : ℕ). not (in_mask c.args.away r) in
    sym (sym c.loop-r.invariant ∙ find_end p c.loop-r.r c.args.to c.loop-r-test.false)
