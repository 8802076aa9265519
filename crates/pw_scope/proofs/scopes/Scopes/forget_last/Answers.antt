use Rattle.std.proofs.Common.{subst}
use Rattle.pw_scope.specs.Log.{Agree}
use Rattle.pw_scope.proofs.Places.{last_is_there, Agree-forgotten}
use Rattle.pw_scope.proofs.scopes.Scopes.forget_last.Goals as goal

pub restore-requires : goal.restore-requires
restore-requires g c =
    let inside = c.self.inside in
    last_is_there c.pop.new.self.items c.in-Some.entry inside.last_places.entries (subst (λ entries. Agree entries inside.last_places.entries) c.in-Some.ensures.items c.self.invariant)

pub invariant_of-self : goal.invariant_of-self
invariant_of-self g c =
    let inside = c.self.inside in
    Agree-forgotten c.pop.new.self.items c.in-Some.entry inside.last_places.entries c.restore.new.last_places.entries (subst (λ entries. Agree entries inside.last_places.entries) c.in-Some.ensures.items c.self.invariant) c.restore.ensures.0
