use Rattle.pw_run.proofs.Composition.{refines_twice}
use Rattle.pw_run.proofs.laws.refinement_composes.Goals as goal

pub returns : goal.returns
returns g c a b c' = refines_twice g.F.Likeness.alike g.G.Likeness.alike a b c'
