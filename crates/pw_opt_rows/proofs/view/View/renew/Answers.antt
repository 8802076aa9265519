use Rattle.std.proofs.Common.{◌∙◌, ◌<◌, ℕ, sym, ap, subst, arith}
use Rattle.pw_opt_rows.specs.Seeing.{rested}
use Rattle.pw_opt_rows.proofs.Viewing.{fresh_seen}
use Rattle.pw_opt_rows.proofs.view.View.renew.Goals as goal

pub renew-requires : goal.renew-requires
renew-requires c =
    let v = c.args.self.now in
    let most = v.places.now.are.most v.block in
    let is = c.count.ensures in
    let long = c.requires.1 in
    omega (arith, most, is, long)

pub returns-clause-seen : goal.returns-clause-seen
returns-clause-seen c =
    let v = c.args.self.now in
    let ps = v.places.now in
    let new = c.renew.new.self in
    fresh_seen ps v.block new (λ j lt. c.renew.ensures.many j (subst (λ (n : ℕ). j < n) (sym c.count.ensures) lt)) ∙ ap (rested ps.places.items) c.renew.ensures.shared
