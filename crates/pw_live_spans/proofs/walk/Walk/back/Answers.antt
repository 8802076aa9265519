use Rattle.std.proofs.Common.{◌≡◌, ◌<◌, ◌+◌, ◌-◌, arith, refl}
use Rattle.pw_live_spans.proofs.Walking.{back_marks}
use Rattle.pw_live_spans.proofs.walk.Walk.back.Goals as goal

pub invariant_of-self : goal.invariant_of-self
invariant_of-self c = let w = c.args.self.now in record { same = w.same; ahead = λ t e h. let up = w.ahead t e h in omega (arith, up) }

pub returns-clause-marked : goal.returns-clause-marked
returns-clause-marked c =
    let w = c.args.self.now in
    let place : w.place - 1 + 1 ≡ w.place = let low : 0 < w.place = c.requires in omega (arith, low) in
    back_marks w _ refl refl place

pub returns-clause-opens : goal.returns-clause-opens
returns-clause-opens c = λ t. (λ h. h, λ h. h)
