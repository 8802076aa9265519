use Rattle.std.proofs.Common.{◌≡◌, ◌+◌, ◌∙◌, ℕ, length, ap, arith, min, subst}
use Rattle.std.specs.List.{count_by, range_with_len}
use Rattle.pw_live.specs.Points.{points}
use Rattle.pw_live_held.proofs.Knowledge.{many_points}
use Rattle.pw_live_needs.specs.Needs.{is_short, short_at, enough, most_short}
use Rattle.pw_live_needs.specs.Counts.{AreCounts, greatest}
use Rattle.pw_live_needs.proofs.Counted.{same_most}
use Rattle.pw_live_needs.proofs.Temps.{none_counted, same_counts, reached_most}
use Rattle.pw_live_needs.proofs.needs.find_most.Goals as goal

pub loop-t-init : goal.loop-t-init
loop-t-init c =
    let f = c.args.f.now in
    let v = c.in_ok-liveness.liveness in
    let w = c.in_ok-counting.counting in
    let n : c.len.result ≡ length (points f) = c.len.ensures ∙ v.makers.ok.0 ∙ many_points f v.makers.items c.in_ok-liveness.ensures.makers in
    none_counted f w (subst (λ (k : ℕ). AreCounts k w) n c.in_ok-counting.ensures.sized) c.in_ok-counting.ensures.counts c.in_ok-counting.ensures.marks

pub returns-then-reached-limit : goal.returns-then-reached-limit
returns-then-reached-limit c =
    let f = c.args.f.now in
    let temps = c.temps-t-end.ensures in
    let lt = c.loop-t-test.true in
    let most = reached_most f (c.loop-t.t + 1) c.count_temp-reached.result c.count_temp-reached.new.counting c.count_temp-reached.ensures.counted (omega (arith, lt, temps)) c.count_temp-reached.ensures.reached in
    let saved = c.from-saved.ensures in
    let changed = c.from-changed.ensures in
    let high = c.if-reached-limit.true in
    omega (arith, most, saved, changed, high)

pub returns : goal.returns
returns c =
    let f = c.args.f.now in
    let is = c.loop-t.invariant in
    let past = c.loop-t-test.false in
    let high = c.loop-t.auto.t-end in
    let temps = c.temps-t-end.ensures in
    let all : c.loop-t.t ≡ f.temps = omega (arith, past, high, temps) in
    let counts = same_counts (short_at f) c.loop-t.counting.counts.items (points f) is.sized.counts (λ q p at. is.each q p at ∙ ap (λ (k : ℕ). count_by (is_short f p) (range_with_len 0 k)) all) in
    let most : c.greatest.result ≡ most_short f (points f) = c.greatest.ensures ∙ ap greatest (c.deref.ensures.value ∙ counts) ∙ same_most f (points f) in
    ap (min enough) most
