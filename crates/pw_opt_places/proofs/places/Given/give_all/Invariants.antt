use Rattle.std.proofs.Common.{◌≡◌, length}
use Rattle.pw_opt_places.specs.Giving.{AreGivenIn, ArePlacesFor}
use Rattle.pw_opt_places.proofs.places.Given.give_all.Given as goal

abbrev pub invariant-loop-t : goal.invariant-loop-t
invariant-loop-t l = record {
  are : AreGivenIn l.self;
  blocks : length l.self.counts.items ≡ length l.fn.self.counts.items;
  places : ArePlacesFor l.t l.homes l.self.places.items;
}
