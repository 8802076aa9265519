use Rattle.std.proofs.Common.{◌∙◌, arith}
use Rattle.pw_webs.specs.Walking.{IsMarked}
use Rattle.pw_webs.proofs.RegionLaws.{none_user, user_put, users_end}
use Rattle.pw_webs.proofs.region.users.Goals as goal

pub loop-place-init : goal.loop-place-init
loop-place-init c = record { same = c.in_ok-row.ensures.length; holds = none_user (λ f. IsMarked c.args.sets.now f c.args.global) c.in_ok-row.row c.in_ok-row.ensures.empty }

pub loop-place-preserved : goal.loop-place-preserved
loop-place-preserved c = record {
  same = c.add_user.ensures.length ∙ c.loop-place.invariant.same;
  holds = user_put (λ f. IsMarked c.args.sets.now f c.args.global) c.loop-place.place c.loop-place.row c.add_user.new.row c.loop-place.invariant.holds c.add_user.ensures.holds;
}

pub returns-clause-holds : goal.returns-clause-holds
returns-clause-holds c =
    let size = c.len-count.ensures in
    let low = c.loop-place-test.false in
    let high = c.loop-place.auto.place-end in
    users_end c.args.graph.now c.args.sets.now c.args.global c.loop-place.place c.loop-place.row c.requires (omega (arith, size, low)) (omega (arith, size, high)) c.loop-place.invariant.holds
