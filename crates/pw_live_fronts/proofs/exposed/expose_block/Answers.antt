use Rattle.std.proofs.Common.{◌≡◌, ◌≢◌, ◌<◌, ◌≤◌, ◌∙◌, ℕ, true, List, get_or, length, subst, sym}
use Rattle.std.specs.Prelude.{Contains, slice_index}
use Rattle.pw_flow.specs.Outline.{Act}
use Rattle.pw_live_fronts.specs.Exposing.{IsExposed}
use Rattle.pw_live_fronts.proofs.Readings.{marks_more, acts_more, acts_end}
use Rattle.pw_live_fronts.proofs.exposed.expose_block.Goals as goal

pub loop-act-preserved : goal.loop-act-preserved
loop-act-preserved c =
    let acts = c.args.block.now.acts in
    let k = c.loop-act.act-index in
    let a = c.act-item.result in
    let mark = c.args.mark in
    let inv = c.loop-act.invariant in
    let lt : k < length acts = subst (λ (xs : List Act). k < length xs) c.acts-act-items.ensures c.loop-act-test.true in
    let is : get_or acts k a ≡ a = sym (subst (λ (xs : List Act). a ≡ get_or xs k a) c.acts-act-items.ensures c.act-item.is) in
    record {
      long = c.expose_act.ensures.length ∙ inv.long;
      count = c.expose_act.ensures.count ∙ inv.count;
      kept = λ u h. c.expose_act.ensures.kept u (inv.kept u h);
      low = c.expose_act.ensures.low inv.low;
      marked = marks_more acts a k mark c.loop-act.marks c.expose_act.new.marks lt is c.expose_act.ensures.marked inv.marked;
      there = acts_more acts a k mark c.loop-act.marks (IsExposed c.loop-act.exposed) (IsExposed c.expose_act.new.exposed) lt is c.expose_act.ensures.kept c.in_ok-expose_act.ensures.there inv.marked inv.there;
    }

pub returns-clause-there : goal.returns-clause-there
returns-clause-there c =
    let acts = c.args.block.now.acts in
    let uses = c.args.block.now.uses in
    let mark = c.args.mark in
    let inv = c.loop-act.invariant in
    let le : length acts ≤ c.loop-act.act-index = subst (λ (xs : List Act). length xs ≤ c.loop-act.act-index) c.acts-act-items.ensures c.loop-act-test.false in
    let now = subst (λ (ts : List ℕ). (t : ℕ) → Contains ts t → slice_index c.loop-act.marks t ≢ mark → IsExposed c.expose_uses.new.exposed t) c.uses.ensures c.in_ok-expose_uses.ensures.there in
    acts_end acts uses c.loop-act.act-index mark c.loop-act.marks (IsExposed c.loop-act.exposed) (IsExposed c.expose_uses.new.exposed) le c.expose_uses.ensures.kept now inv.marked inv.there
