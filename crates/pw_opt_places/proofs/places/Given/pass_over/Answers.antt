use Rattle.std.proofs.Common.{List, sym, subst}
use Rattle.pw_opt_places.specs.declared.places.Place.{Place}
use Rattle.pw_opt_places.specs.Places.{AreGiven}
use Rattle.pw_opt_places.proofs.Giving.{over_given}
use Rattle.pw_opt_places.proofs.places.Given.pass_over.Goals as goal

pub returns-clause-are : goal.returns-clause-are
returns-clause-are c =
    let g = c.args.self.now in
    subst (λ (places : List Place). AreGiven places g.names.items g.counts.items) (sym c.in_ok-push.ensures.items) (over_given g.places.items g.names.items g.counts.items c.requires)
