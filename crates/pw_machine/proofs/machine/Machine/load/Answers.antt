use Rattle.std.proofs.Common.{arith}
use Rattle.pw_image.proofs.LoadLemmas.{loads, loads_again}
use Rattle.pw_machine.specs.Stops.{Snapshot, loaded}
use Rattle.pw_machine.proofs.machine.Machine.load.Goals as goal

pub returns-clause-found : goal.returns-clause-found
returns-clause-found c = loads (λ (s : Snapshot). s) loaded c.args.image.now c.load_alone.result (λ i. omega (arith, c.type_inv.image i)) c.load_alone.ensures

pub returns-clause-only : goal.returns-clause-only
returns-clause-only c = loads_again (λ (s : Snapshot). s) loaded c.args.image.now c.load_alone.result c.load_alone.ensures
