use Rattle.std.proofs.Common.{◌+◌, ℕ, List, subst}
use Rattle.std.specs.Prelude.{◌↔◌}
use Rattle.pw_alloc_masks.specs.Masks.{HasRegister}
use Rattle.pw_alloc_masks.specs.Sets.{HasAmong}
use Rattle.pw_alloc_masks.proofs.Joining.{within_are}
use Rattle.pw_alloc_masks.proofs.sets.PointSets.within.Goals as goal

pub returns : goal.returns
returns c = λ k.
    let v = c.args.self.now in
    let from = c.args.span.0 in
    let to = c.args.span.1 in
    let places = subst (λ (ms : List ℕ). HasRegister c.joined.result k ↔ HasAmong ms (v.points + from) (v.points + to) k) c.deref.ensures.value (c.joined.ensures k) in
    let points = within_are v from to k in
    (λ h. points.0 (places.0 h), λ h. places.1 (points.1 h))
