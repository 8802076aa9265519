use Rattle.std.proofs.Common.{◌≡◌, drop}
use Rattle.pw_lower.specs.Places.{temps_from}
use Rattle.pw_lower_places.proofs.places.temps_of.Given as goal

-- the places that are left are still to be counted
abbrev pub invariant-loop-place : goal.invariant-loop-place
invariant-loop-place l = temps_from l.temps (drop l.place-index l.places) ≡ temps_from l.params l.places
