use Rattle.std.proofs.Common.{refl}
use Rattle.pw_alloc_masks.proofs.Joining.{put_has}
use Rattle.pw_alloc_masks.proofs.sets.put_at.Goals as goal

pub returns-clause-each : goal.returns-clause-each
returns-clause-each c = put_has c.args.masks.now _ c.args.i c.args.r c.with_register-mask.result c.requires.place refl c.with_register-mask.ensures
