use Rattle.std.proofs.Common.{◌≤◌, ◌+◌, ◌-◌, arith}
use Rattle.std.proofs.Math.Nat.{mod-eq_of_lt}
use Rattle.pw_inst.proofs.FieldLemmas.{shifted_fits}
use Rattle.pw_inst.proofs.fields.place.Goals as goal

pub returns : goal.returns
returns c =
    let room : c.args.width + (32 - (c.args.first + c.args.width)) ≤ 32 = omega arith in
    mod-eq_of_lt (shifted_fits c.args.value c.args.width (32 - (c.args.first + c.args.width)) c.requires.fits room)
