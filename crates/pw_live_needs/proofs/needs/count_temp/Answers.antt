use Rattle.std.proofs.Common.{◌≡◌, ◌∙◌, ℕ, length, arith, sym, subst}
use Rattle.pw_live.specs.Points.{points}
use Rattle.pw_live_held.proofs.Knowledge.{many_points, spanned_points}
use Rattle.pw_live_needs.specs.Counts.{AreCounts}
use Rattle.pw_live_needs.proofs.Temps.{held_counted, short_counted}
use Rattle.pw_live_needs.proofs.needs.count_temp.Goals as goal

pub returns-then-held-clause-counted : goal.returns-then-held-clause-counted
returns-then-held-clause-counted c = held_counted c.args.f.now c.args.t c.args.counting.now (sym c.is_held-held.ensures ∙ c.if-held.true) c.requires.before

pub returns-then-held-clause-reached : goal.returns-then-held-clause-reached
returns-then-held-clause-reached c = (0, omega arith)

pub count_spans-requires-clause-spans : goal.count_spans-requires-clause-spans
count_spans-requires-clause-spans c = λ p covers.
    let f = c.args.f.now in
    let v = c.args.liveness.now in
    let known = c.requires.liveness in
    let lt = spanned_points f v.spans c.args.t c.of.result.now p known.spans (c.points_stand_by_number.ensures.there f) c.of.ensures covers in
    let long = many_points f v.makers.items known.makers in
    let n = c.len-points.ensures ∙ v.makers.ok.0 in
    omega (arith, lt, long, n)

pub returns-clause-counted : goal.returns-clause-counted
returns-clause-counted c =
    let f = c.args.f.now in
    let v = c.args.liveness.now in
    let known = c.requires.liveness in
    let n : c.len-points.result ≡ length (points f) = c.len-points.ensures ∙ v.makers.ok.0 ∙ many_points f v.makers.items known.makers in
    short_counted f c.args.t c.args.counting.now c.count_spans.new.self c.of.result.now (c.points_stand_by_number.ensures.lives f) (λ q. known.spans.each c.args.t q c.of.result.now c.of.ensures) (sym c.is_held-held.ensures ∙ c.if-held.false) c.requires.before
    (subst (λ (k : ℕ). AreCounts k c.count_spans.new.self) n c.count_spans.ensures.sized) c.count_spans.ensures.same c.count_spans.ensures.marked c.count_spans.ensures.others
