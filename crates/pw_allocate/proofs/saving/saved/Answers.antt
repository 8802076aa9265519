use Rattle.std.proofs.Common.{◌≡◌, ℕ, ◌++◌, ◌+◌, ◌-◌, ap, sym, ◌∙◌, arith}
use Rattle.std.proofs.lemmas.List.{append-nil}
use Rattle.pw_db.specs.Limits.{last_register}
use Rattle.pw_allocate.specs.Saving.{saved_from}
use Rattle.pw_allocate.proofs.saving.saved.Goals as goal

pub returns : goal.returns
returns c =
    let end : last_register + 1 - c.loop-r.r ≡ 0 = omega arith in
    sym (append-nil c.loop-r.saved)
    ∙ ap (λ (n : ℕ). c.loop-r.saved ++ saved_from c.args.directives.now c.args.registers.now c.loop-r.r n) (sym end)
    ∙ c.loop-r.invariant
