use Rattle.pw_graph.proofs.Steps.{place_found}
use Rattle.pw_graph.proofs.places.place_of.Goals as goal

pub returns : goal.returns
returns c = place_found c.args.names.now c.args.name.now c.find_name.result c.find_name.ensures.found c.find_name.ensures.none
