use Rattle.std.proofs.lemmas.Slice.Eq.{slice_eq-Decides}
use Rattle.pw_build_objects.proofs.ShownLaws.{pair_decides}
use Rattle.pw_build_objects.proofs.shown.are_same_declarations.Goals as goal

pub returns : goal.returns
returns c = λ t. (slice_eq-Decides pair_decides c.args.declared.now c.args.others.now c.eq.result c.eq.ensures).0 t
