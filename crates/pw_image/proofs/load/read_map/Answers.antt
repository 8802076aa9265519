use Rattle.std.proofs.Common.{arith}
use Rattle.pw_image.specs.Loading.{map_of}
use Rattle.pw_image.proofs.LoadLemmas.{loads, loads_again}
use Rattle.pw_image.proofs.load.read_map.Goals as goal

pub returns-clause-found : goal.returns-clause-found
returns-clause-found c = loads (λ map. map) map_of c.args.bytes.now c.map_alone.result (λ i. omega (arith, c.type_inv.bytes i)) c.map_alone.ensures

pub returns-clause-only : goal.returns-clause-only
returns-clause-only c = loads_again (λ map. map) map_of c.args.bytes.now c.map_alone.result c.map_alone.ensures
