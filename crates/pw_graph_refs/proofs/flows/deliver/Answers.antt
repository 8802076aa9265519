use Rattle.std.proofs.Common.{◌≡◌, ◌<◌, ◌∙◌, arith, get_or, length, refl, subst, sym}
use Rattle.std.proofs.lemmas.Option.{slice_get_read}
use Rattle.pw_fix.specs.declared.bit_row.BitRow.{BitRow}
use Rattle.pw_graph_refs.proofs.Marks.{deliver_none, deliver_put, deliver_end, item_at}
use Rattle.pw_graph_refs.proofs.flows.deliver.Goals as goal

pub loop-from-init : goal.loop-from-init
loop-from-init c = record { count = refl; size = refl; holds = deliver_none c.args.values.now c.args.table.now }

pub join-requires : goal.join-requires
join-requires c =
    let edges = c.args.edges.now in
    let i = c.loop-from.from-index in
    let e = get_or edges i (0, 0) in
    let row = c.index-values-from.result in
    let ends = c.requires.within i (0, 0) c.loop-from-test.true in
    let from : e.0 < length c.args.values.now = omega (arith, ends.0, c.requires.count) in
    let its = subst (λ (r : BitRow). r.len ≡ c.args.table.now.len) (sym c.index-values-from.is) (c.requires.rows e.0 row from) in
    record { place = omega (arith, ends.1, c.loop-from.invariant.count); row = its ∙ sym c.loop-from.invariant.size }

pub loop-from-preserved : goal.loop-from-preserved
loop-from-preserved c =
    let edges = c.args.edges.now in
    let i = c.loop-from.from-index in
    let e = get_or edges i (0, 0) in
    let row = c.index-values-from.result in
    let ends = c.requires.within i (0, 0) c.loop-from-test.true in
    let from : e.0 < length c.args.values.now = omega (arith, ends.0, c.requires.count) in
    let there = slice_get_read c.args.values.now (length c.args.values.now) e.0 row refl from c.index-values-from.is in
    record {
      count = c.join.ensures.count ∙ c.loop-from.invariant.count;
      size = c.join.ensures.length ∙ c.loop-from.invariant.size;
      holds = deliver_put edges i e c.args.values.now row c.args.table.now c.loop-from.table c.join.new.table c.loop-from-test.true (item_at edges i (0, 0) c.loop-from-test.true) there c.loop-from.invariant.holds c.join.ensures.holds;
    }

pub returns-clause-holds : goal.returns-clause-holds
returns-clause-holds c = deliver_end c.args.edges.now c.loop-from.from-index c.args.values.now c.args.table.now c.loop-from.table c.loop-from-test.false c.loop-from.invariant.holds
