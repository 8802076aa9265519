use Rattle.std.proofs.Common.{ℕ, ◌<◌, sym, subst, arith}
use Rattle.pw_opt_rows.proofs.Viewing.{seen_forgotten}
use Rattle.pw_opt_rows.proofs.view.View.forget.Goals as goal

pub forget-requires : goal.forget-requires
forget-requires c =
    let v = c.args.self.now in
    let most = v.places.now.are.most v.block in
    let is = c.count.ensures in
    let long = c.requires.1 in
    omega (arith, most, is, long)

pub returns-clause-seen : goal.returns-clause-seen
returns-clause-seen c =
    let v = c.args.self.now in
    let own = c.forget.ensures.own_gone in
    seen_forgotten v.places.now v.block c.args.of c.args.row.now c.forget.new.self c.forget.ensures.shared c.forget.ensures.shared_gone (λ j lt. own j (subst (λ (n : ℕ). j < n) (sym c.count.ensures) lt))
