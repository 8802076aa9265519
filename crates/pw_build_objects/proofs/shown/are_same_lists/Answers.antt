use Rattle.std.proofs.lemmas.Slice.Eq.{bytes_eq-Decides, slice_eq-Decides}
use Rattle.pw_build_objects.proofs.shown.are_same_lists.Goals as goal

pub returns : goal.returns
returns c = λ t. (slice_eq-Decides bytes_eq-Decides c.args.names.now c.args.others.now c.eq.result c.eq.ensures).0 t
