use Rattle.std.proofs.Common.{◌∙◌, get_or}
use Rattle.pw_webs.proofs.WalkLaws.{row_put, row_end, item_at}
use Rattle.pw_webs.proofs.walks.add_row.Goals as goal

pub loop-place-preserved : goal.loop-place-preserved
loop-place-preserved c =
    let row = c.args.row.now in
    let i = c.loop-place.place-index in
    record {
      same = c.insert.ensures.length ∙ c.loop-place.invariant.same;
      holds = row_put row i (get_or row i 0) c.args.found.now c.loop-place.found c.insert.new.self c.loop-place-test.true (item_at row i 0 c.loop-place-test.true) c.loop-place.invariant.holds c.insert.ensures.holds;
    }

pub returns-clause-holds : goal.returns-clause-holds
returns-clause-holds c = row_end c.args.row.now c.loop-place.place-index c.args.found.now c.loop-place.found c.loop-place-test.false c.loop-place.invariant.holds
