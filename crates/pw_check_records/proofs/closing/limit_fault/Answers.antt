use Rattle.std.proofs.Common.{◌≡◌, ℕ, ap, ◌∙◌, arith}
use Rattle.pw_value.specs.Caps.{capped}
use Rattle.pw_check_walk.specs.declared.constraints.CheckFault.{CheckFault}
use Rattle.pw_check_walk.specs.declared.constraints.CheckKind.TheVariants.{Limit}
use Rattle.pw_check_records.proofs.closing.limit_fault.Goals as goal

pub returns : goal.returns
returns c =
    let made : ℕ → CheckFault = λ k. record { kind = Limit c.args.limit k; token = c.args.token } in
    let same : c.args.count ≡ capped c.args.count = omega arith in
    c.fault.ensures ∙ ap made same
