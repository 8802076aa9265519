use Rattle.std.proofs.Common.{◌⊎◌, ◌≤◌, ◌<◌, ℕ, arith, subst}
use Rattle.std.specs.Prelude.{◌↔◌}
use Rattle.pw_live_spans.specs.Spans.{IsIn, Covers}
use Rattle.pw_live_spans.proofs.walk.put_behind.Goals as goal

pub put_joined-requires : goal.put_joined-requires
put_joined-requires c =
    let k = c.touches.ensures.0 c.if-touches.true in
    let same = k.0 in
    let le = c.requires in
    record { up = k.1; points = omega (arith, same, le) }

pub returns-in_ok-put_joined : goal.returns-in_ok-put_joined
returns-in_ok-put_joined c =
    let k = c.touches.ensures.0 c.if-touches.true in
    subst (λ (to : ℕ). (q : ℕ) → Covers c.put_joined.new.spans q ↔ ((Covers c.args.spans.now q ⊎ IsIn c.args.last q) ⊎ ((c.args.from ≤ q) × (q < to)))) k.0 c.in_ok-put_joined.ensures
