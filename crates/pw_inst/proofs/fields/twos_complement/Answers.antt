use Rattle.std.proofs.Common.{◌≡◌, ◌<◌, ◌≤◌, ◌^◌, ◌*◌, ◌-◌, w32, ap, ◌∙◌, arith}
use Rattle.std.proofs.lemmas.Nat.{pow_pos}
use Rattle.std.proofs.lemmas.Int.{to_z-of_z}
use Rattle.std.specs.Int.RustNames.{unsigned_abs}
use Rattle.pw_inst.proofs.FieldLemmas.{twice, magnitude_fits}
use Rattle.pw_inst.proofs.fields.twos_complement.Goals as goal

pub returns-else-number-lt0-clause-small : goal.returns-else-number-lt0-clause-small
returns-else-number-lt0-clause-small c =
    let double : 2 ^ c.args.width ≡ 2 * 2 ^ (c.args.width - 1) = twice c.args.width c.requires.wide in
    let some : 0 < 2 ^ (c.args.width - 1) = pow_pos (c.args.width - 1) in
    let within : unsigned_abs c.args.number ≤ 2 ^ (c.args.width - 1) = magnitude_fits c.args.number (2 ^ (c.args.width - 1)) some c.requires.fits.0 c.requires.fits.1 in
    let same : c.unsigned_abs-magnitude.result ≡ unsigned_abs c.args.number =
    c.unsigned_abs-magnitude.ensures.value ∙ ap unsigned_abs (to_z-of_z w32 c.args.number c.ranges.number) in
    omega arith
