use Rattle.std.proofs.Common.{◌≡◌, ◌+◌, ◌∙◌, ℕ, get_or, refl, take}
use Rattle.std.specs.Prelude.{Contains}
use Rattle.pw_live_spans.specs.Walking.{IsOpen, Marked}
use Rattle.pw_live_spans.proofs.Steps.{first_more, first_none, first_all, item_at, marks_more, marks_none, marks_all, opens_more, opens_none, opens_all}
use Rattle.pw_live_spans.proofs.spans.open_all.Goals as goal

pub loop-t-init : goal.loop-t-init
loop-t-init c =
    let ts = c.args.temps.now in
    let w = c.args.walk.now in
    record {
      place = refl;
      count = refl;
      marked = marks_none (Marked w) (Contains (take 0 ts)) w.place (λ u. first_none ts u);
      opens = opens_none (IsOpen w) (Contains (take 0 ts)) (λ u. first_none ts u);
    }

pub loop-t-preserved : goal.loop-t-preserved
loop-t-preserved c =
    let ts = c.args.temps.now in
    let k = c.loop-t.t-index in
    let t = get_or ts k 0 in
    let old = c.args.walk.now in
    let cur = c.loop-t.walk in
    let new = c.open_span.new.self in
    let is = item_at ts k 0 c.loop-t-test.true in
    record {
      place = c.open_span.ensures.place ∙ c.loop-t.invariant.place;
      count = c.open_span.ensures.count ∙ c.loop-t.invariant.count;
      marked = marks_more (Marked new) (Marked cur) (Marked old) (λ (u : ℕ). u ≡ t) (Contains (take k ts)) (Contains (take (k + 1) ts)) old.place cur.place c.loop-t.invariant.place
          (λ u. first_more ts k t u c.loop-t-test.true is) c.open_span.ensures.marked c.loop-t.invariant.marked;
      opens = opens_more (IsOpen new) (IsOpen cur) (IsOpen old) (λ (u : ℕ). u ≡ t) (Contains (take k ts)) (Contains (take (k + 1) ts))
          (λ u. first_more ts k t u c.loop-t-test.true is) c.open_span.ensures.opens c.loop-t.invariant.opens;
    }

pub returns-clause-marked : goal.returns-clause-marked
returns-clause-marked c =
    let ts = c.args.temps.now in
    let k = c.loop-t.t-index in
    marks_all (Marked c.loop-t.walk) (Marked c.args.walk.now) (Contains (take k ts)) (Contains ts) c.args.walk.now.place (λ u. first_all ts k u c.loop-t-test.false) c.loop-t.invariant.marked

pub returns-clause-opens : goal.returns-clause-opens
returns-clause-opens c =
    let ts = c.args.temps.now in
    let k = c.loop-t.t-index in
    opens_all (IsOpen c.loop-t.walk) (IsOpen c.args.walk.now) (Contains (take k ts)) (Contains ts) (λ u. first_all ts k u c.loop-t-test.false) c.loop-t.invariant.opens
