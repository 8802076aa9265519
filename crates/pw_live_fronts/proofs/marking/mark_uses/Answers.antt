use Rattle.std.proofs.Common.{get_or, refl, sym, ◌∙◌}
use Rattle.pw_fix.specs.Table.{HoldsAt}
use Rattle.pw_live_fronts.proofs.MarkSteps.{reads_none, reads_more, reads_all, item_at}
use Rattle.pw_live_fronts.proofs.marking.mark_uses.Goals as goal

pub loop-t-init : goal.loop-t-init
loop-t-init c = record { count = refl; len = refl; holds = reads_none c.args.exposed.now c.args.node (HoldsAt c.args.uses.now) (HoldsAt c.args.defines.now c.args.node) }

pub loop-t-preserved : goal.loop-t-preserved
loop-t-preserved c =
    let ts = c.args.read.now in
    let k = c.loop-t.t-index in
    let t = get_or ts k 0 in
    record {
      count = c.mark_use.ensures.count ∙ c.loop-t.invariant.count;
      len = c.mark_use.ensures.len ∙ c.loop-t.invariant.len;
      holds = reads_more c.args.exposed.now ts k c.args.node t (HoldsAt c.mark_use.new.uses) (HoldsAt c.loop-t.uses) (HoldsAt c.args.uses.now) (HoldsAt c.args.defines.now c.args.node)
          c.loop-t-test.true (sym (item_at ts k 0 c.loop-t-test.true)) c.mark_use.ensures.holds c.loop-t.invariant.holds;
    }

pub returns-clause-holds : goal.returns-clause-holds
returns-clause-holds c =
    reads_all c.args.exposed.now c.args.read.now c.loop-t.t-index c.args.node (HoldsAt c.loop-t.uses) (HoldsAt c.args.uses.now) (HoldsAt c.args.defines.now c.args.node)
    c.loop-t-test.false c.loop-t.invariant.holds
