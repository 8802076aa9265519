use Rattle.std.proofs.Common.{◌<◌, ◌^◌, ◌*◌, ◌-◌, w32, rules, ap, ◌∙◌}
use Rattle.std.proofs.lemmas.Int.{to_z-of_z}
use Rattle.pw_inst.specs.Fields.{signed}
use Rattle.pw_inst.proofs.FieldLemmas.{twice, half_is_small, rotated}
use Rattle.pw_inst.proofs.fields.low_signed.Goals as goal

pub returns : goal.returns
returns c =
    let value = c.args.value in
    let half = 2 ^ (c.args.width - 1) in
    let fits : value < 2 * half = rw (twice c.args.width c.requires.wide) at c.requires.fits in
    to_z-of_z w32 c.signed.result (search rules) ∙ c.signed.ensures ∙ ap (signed c.args.width) (rotated value half fits (half_is_small c.args.width c.requires.narrow))
