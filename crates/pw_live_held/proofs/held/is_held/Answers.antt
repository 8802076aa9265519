use Rattle.std.proofs.Common.{◌∙◌, arith, sym, subst}
use Rattle.pw_live.specs.Interference.{is_held}
use Rattle.std.specs.Cmp.{both_ways}
use Rattle.pw_live_held.specs.Calls.{AreCallsOf}
use Rattle.pw_live_held.proofs.Knowledge.{many_points, same_points, spanned_points, held_there, there_held}
use Rattle.pw_live_held.proofs.held.is_held.Goals as goal

pub of-requires : goal.of-requires
of-requires c = let lt = c.requires.temp in let count = c.requires.liveness.spans.count in omega (arith, lt, count)

pub is_held_over-requires : goal.is_held_over-requires
is_held_over-requires c =
    let f = c.args.f.now in
    let v = c.args.liveness.now in
    let known = c.requires.liveness in
    let there = c.points_stand_by_number.ensures.there f in
    let made = c.deref.ensures.value ∙ known.makers in
    let called = subst (AreCallsOf f) (sym c.deref-2.ensures.value) known.calls in
    let long = many_points f c.deref.result.now made in
    record {
      lasts = called;
      long = same_points f c.deref.result.now c.deref-2.result.now made called;
      points = λ p covers. let lt = spanned_points f v.spans c.args.t c.of.result.now p known.spans there c.of.ensures covers in omega (arith, lt, long);
    }

pub returns : goal.returns
returns c =
    let f = c.args.f.now in
    let v = c.args.liveness.now in
    let t = c.args.t in
    let known = c.requires.liveness in
    let lives = c.points_stand_by_number.ensures.lives f in
    let there = c.points_stand_by_number.ensures.there f in
    let made = c.deref.ensures.value ∙ known.makers in
    let is = c.is_held_over.ensures in
    both_ways c.is_held_over.result (is_held f t)
    (λ e. held_there f v.spans t c.of.result.now c.deref.result.now known.spans lives there c.of.ensures made (is.0 e))
    (λ e. is.1 (there_held f v.spans t c.of.result.now c.deref.result.now known.spans lives there c.of.ensures made e))
