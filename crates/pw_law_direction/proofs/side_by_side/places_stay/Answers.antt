use Rattle.pw_law_direction.proofs.Registers.{other-globals-stay}
use Rattle.pw_law_direction.proofs.Calls.{stands-at-calls, entries-are-alone, stands-at-returns}
use Rattle.pw_law_direction.proofs.side_by_side.places_stay.Goals as goal

pub returns-clause-writes : goal.returns-clause-writes
returns-clause-writes c g d w h v f fs registers sound linked saves within other = other-globals-stay g d sound w h v f fs registers linked saves within other

pub returns-clause-calls : goal.returns-clause-calls
returns-clause-calls c = stands-at-calls

pub returns-clause-entries : goal.returns-clause-entries
returns-clause-entries c = entries-are-alone

pub returns-clause-returns : goal.returns-clause-returns
returns-clause-returns c = stands-at-returns
