use Rattle.std.proofs.Common.{◌+◌, ◌&&◌, ◌∙◌, ℕ, not, refl, sym}
use Rattle.pw_db.specs.Limits.{last_register}
use Rattle.pw_alloc_masks.specs.Masks.{in_mask}
use Rattle.pw_alloc_registers.proofs.Choosing.{find_here, find_next, find_end}
use Rattle.pw_alloc_registers.proofs.colouring.first_shared.Goals as goal

pub loop-r-init : goal.loop-r-init
loop-r-init c = refl

pub returns-then-is_free_of-clause-first : goal.returns-then-is_free_of-clause-first
returns-then-is_free_of-clause-first c =
    let p = λ (r : ℕ). in_mask c.args.cluster r && not (in_mask c.args.away r) in
    sym (sym c.loop-r.invariant ∙ find_here p c.loop-r.r (last_register + 1) c.loop-r-test.true (sym c.is_free_of.ensures ∙ c.if-is_free_of.true))

pub loop-r-preserved : goal.loop-r-preserved
loop-r-preserved c =
    let p = λ (r : ℕ). in_mask c.args.cluster r && not (in_mask c.args.away r) in
    sym (find_next p c.loop-r.r (last_register + 1) c.loop-r-test.true (sym c.is_free_of.ensures ∙ c.if-is_free_of.false)) ∙ c.loop-r.invariant

pub returns-clause-first : goal.returns-clause-first
returns-clause-first c =
    let p = λ (r : ℕ). in_mask c.args.cluster r && not (in_mask c.args.away r) in
    sym (sym c.loop-r.invariant ∙ find_end p c.loop-r.r (last_register + 1) c.loop-r-test.false)
