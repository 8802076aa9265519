use Rattle.std.proofs.Common.{◌≡◌, ◌<◌, ◌≤◌, ◌^◌, ◌*◌, ◌-◌, ◌%◌, arith}
use Rattle.std.proofs.lemmas.Nat.{one_shl}
use Rattle.pw_inst.proofs.FieldLemmas.{twice, half_is_small, extended}
use Rattle.pw_inst.proofs.fields.signed.Goals as goal

pub returns-else-value-half : goal.returns-else-value-half
returns-else-value-half c =
    let width = c.args.width in
    let below : width - 1 < 32 = omega arith in
    let half : 1 * 2 ^ (width - 1) % 2 ^ 32 ≡ 2 ^ (width - 1) = one_shl (width - 1) 32 below in
    let above : 2 ^ (width - 1) ≤ c.args.value = rw half at c.if-value-half.false in
    rw half (extended c.args.value (2 ^ (width - 1)) (2 ^ width) above c.requires.fits (twice width c.requires.wide) (half_is_small width c.requires.narrow))
