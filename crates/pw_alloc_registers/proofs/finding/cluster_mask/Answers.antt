use Rattle.std.proofs.Common.{ℕ, List, [], ◌++◌, subst}
use Rattle.pw_alloc_registers.specs.Masks.{IsMaskOf}
use Rattle.pw_alloc_registers.proofs.Barring.{kept_low, barred_none}
use Rattle.pw_alloc_registers.proofs.finding.cluster_mask.Goals as goal

pub with_registers-free-requires : goal.with_registers-free-requires
with_registers-free-requires c = kept_low c.args.directives.now.free c.as_slice.result.now c.requires.free c.as_slice.ensures

pub with_registers-requires : goal.with_registers-requires
with_registers-requires c = kept_low c.args.directives.now.saves c.as_slice-2.result.now c.requires.saves c.as_slice-2.ensures

pub returns : goal.returns
returns c =
    let free = subst (IsMaskOf c.with_registers-free.result) c.as_slice.ensures (c.with_registers-free.ensures [] barred_none) in
    subst (λ (rs : List ℕ). IsMaskOf c.with_registers.result (c.args.directives.now.free ++ rs)) c.as_slice-2.ensures (c.with_registers.ensures c.args.directives.now.free free)
