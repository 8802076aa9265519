use Rattle.std.proofs.Common.{◌∙◌, refl, get_or}
use Rattle.pw_graph_refs.proofs.Marks.{mark_none, mark_put, mark_end, item_at}
use Rattle.pw_graph_refs.proofs.flows.mark.Goals as goal

pub loop-each-init : goal.loop-each-init
loop-each-init c = record { count = refl; size = refl; holds = mark_none c.args.place c.args.table.now }

pub loop-each-preserved : goal.loop-each-preserved
loop-each-preserved c =
    let refs = c.args.refs.now in
    let i = c.loop-each.each-index in
    let r = get_or refs i (0, 0, 0) in
    record {
      count = c.mark_one.ensures.count ∙ c.loop-each.invariant.count;
      size = c.mark_one.ensures.length ∙ c.loop-each.invariant.size;
      holds = mark_put refs i c.args.place r c.args.table.now c.loop-each.table c.mark_one.new.table c.loop-each-test.true (item_at refs i (0, 0, 0) c.loop-each-test.true) c.loop-each.invariant.holds c.mark_one.ensures.holds;
    }

pub returns-clause-holds : goal.returns-clause-holds
returns-clause-holds c = mark_end c.args.refs.now c.loop-each.each-index c.args.place c.args.table.now c.loop-each.table c.loop-each-test.false c.loop-each.invariant.holds
