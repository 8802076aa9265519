use Rattle.std.proofs.Common.{◌≡◌, ◌∙◌, ◌+◌, length, refl, sym, subst, arith}
use Rattle.pw_opt_places.specs.Giving.{IsHomeBelow, IsPlaceFor, ArePlacesFor, place_for}
use Rattle.pw_opt_places.proofs.Giving.{for_none, for_more, place_fits, home_below}
use Rattle.pw_opt_places.proofs.places.Given.give_all.Goals as goal

pub give-requires-clause-home : goal.give-requires-clause-home
give-requires-clause-home c =
    let homes = c.args.homes.now in
    let t = c.loop-t.t in
    subst (λ n. IsHomeBelow n c.at.result) (sym c.loop-t.invariant.blocks)
    (subst (IsHomeBelow (length c.args.self.now.counts.items)) (sym c.at.ensures) (home_below (length c.args.self.now.counts.items) homes t c.requires.homes))

pub loop-t-init : goal.loop-t-init
loop-t-init c = record { are = c.requires.are; blocks = refl; places = subst (ArePlacesFor 0 c.args.homes.now) (sym c.requires.first) (for_none c.args.homes.now) }

pub loop-t-preserved : goal.loop-t-preserved
loop-t-preserved c =
    let homes = c.args.homes.now in
    let g = c.loop-t.self in
    let t = c.loop-t.t in
    let inv = c.loop-t.invariant in
    let place = place_for c.at.result g.names.items g.counts.items in
    let fits = subst (λ h. IsPlaceFor h place) c.at.ensures (place_fits c.at.result g.names.items g.counts.items) in
    record {
      are = c.in_ok-give.ensures.are;
      blocks = c.in_ok-give.ensures.place.1 ∙ inv.blocks;
      places = subst (ArePlacesFor (t + 1) homes) (sym c.in_ok-give.ensures.place.0) (for_more t homes g.places.items place inv.places fits);
    }

pub give-requires-clause-next : goal.give-requires-clause-next
give-requires-clause-next c = sym c.loop-t.invariant.places.0

pub returns : goal.returns
returns c =
    let inv = c.loop-t.invariant in
    let all : c.loop-t.t ≡ c.args.temps = omega (arith, c.loop-t-test.false, c.loop-t.auto.t-end) in
    record { are = inv.are; places = subst (λ n. ArePlacesFor n c.args.homes.now c.loop-t.self.places.items) all inv.places }
