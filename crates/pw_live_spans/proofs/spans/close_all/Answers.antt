use Rattle.std.proofs.Common.{◌+◌, ◌∙◌, get_or, refl, take}
use Rattle.std.specs.Prelude.{Contains}
use Rattle.pw_live_spans.specs.Walking.{IsOpen, Marked}
use Rattle.pw_live_spans.proofs.Steps.{first_more, first_none, first_all, item_at, marks_same, shuts_more, shuts_none, shuts_all}
use Rattle.pw_live_spans.proofs.spans.close_all.Goals as goal

pub loop-t-init : goal.loop-t-init
loop-t-init c =
    let ts = c.args.temps.now in
    let w = c.args.walk.now in
    record {
      place = refl;
      count = refl;
      marked = λ u q. (λ h. h, λ h. h);
      opens = shuts_none (IsOpen w) (Contains (take 0 ts)) (λ u. first_none ts u);
    }

pub loop-t-preserved : goal.loop-t-preserved
loop-t-preserved c =
    let ts = c.args.temps.now in
    let k = c.loop-t.t-index in
    let t = get_or ts k 0 in
    let old = c.args.walk.now in
    let cur = c.loop-t.walk in
    let new = c.close_span.new.self in
    let is = item_at ts k 0 c.loop-t-test.true in
    record {
      place = c.close_span.ensures.place ∙ c.loop-t.invariant.place;
      count = c.close_span.ensures.count ∙ c.loop-t.invariant.count;
      marked = marks_same (Marked new) (Marked cur) (Marked old) c.in_ok-close_span.ensures.marked c.loop-t.invariant.marked;
      opens = shuts_more (IsOpen new) (IsOpen cur) (IsOpen old) (Contains (take k ts)) (Contains (take (k + 1) ts)) t
          (λ u. first_more ts k t u c.loop-t-test.true is) c.in_ok-close_span.ensures.opens c.loop-t.invariant.opens;
    }

pub returns-clause-opens : goal.returns-clause-opens
returns-clause-opens c =
    let ts = c.args.temps.now in
    let k = c.loop-t.t-index in
    shuts_all (IsOpen c.loop-t.walk) (IsOpen c.args.walk.now) (Contains (take k ts)) (Contains ts) (λ u. first_all ts k u c.loop-t-test.false) c.loop-t.invariant.opens
