use Rattle.pw_law_stops.proofs.Stopping.{stops_told}
use Rattle.pw_law_stops.proofs.stops_are_those_of_the_source.Goals as goal

pub returns : goal.returns
returns c = stops_told c.runs_add_up.ensures.stays
