use Rattle.std.proofs.Common.{ℕ, List, get_or, ◌++◌, sym, subst}
use Rattle.std.proofs.lemmas.List.{append-nil, take_all, get_or_default}
use Rattle.pw_alloc_registers.specs.Masks.{IsMaskOf}
use Rattle.pw_alloc_registers.proofs.Barring.{more_registers}
use Rattle.pw_alloc_registers.proofs.finding.with_registers.Goals as goal

pub loop-register-init : goal.loop-register-init
loop-register-init c = λ rs mask. subst (IsMaskOf c.args.mask) (sym (append-nil rs)) mask

pub with_register-more-requires : goal.with_register-more-requires
with_register-more-requires c = c.requires c.loop-register.register-index 0 c.loop-register-test.true

pub loop-register-preserved : goal.loop-register-preserved
loop-register-preserved c = λ rs mask.
    more_registers c.args.registers.now c.loop-register.register-index (get_or c.args.registers.now c.loop-register.register-index 0) rs c.loop-register.all c.with_register-more.result c.loop-register-test.true (get_or_default c.args.registers.now c.loop-register.register-index (get_or c.args.registers.now c.loop-register.register-index 0) 0 c.loop-register-test.true) c.with_register-more.ensures
    (c.loop-register.invariant rs mask)

pub returns : goal.returns
returns c = λ rs mask. subst (λ (xs : List ℕ). IsMaskOf c.loop-register.all (rs ++ xs)) (take_all c.loop-register.register-index c.args.registers.now c.loop-register-test.false) (c.loop-register.invariant rs mask)
