use Rattle.std.proofs.Common.{◌≡◌, ◌+◌, suc, arith}
use Rattle.std.proofs.lemmas.Result.{err_from_is_err_and}
use Rattle.pw_fields.proofs.FieldLoops.{goes_on, ends, is_done}
use Rattle.pw_db_sharing.specs.Reading.{kept_at, next_least}
use Rattle.pw_db_sharing.proofs.reading.read_kept_items.Goals as goal

pub returns-in_err-r : goal.returns-in_err-r
returns-in_err-r c =
    let p = err_from_is_err_and c.from_residual.result c.from_residual.ensures.1 in
    rw (p.1, p.2) (ends (kept_at c.args.others.now) next_least c.in_err-r.field-0.0 c.loop.registers c.args.count c.loop.counter c.loop.least c.loop.rest.now _ c.loop-test.true c.in_err-r.ensures.found c.loop.invariant)

pub loop-preserved : goal.loop-preserved
loop-preserved c =
    let up : suc c.in_ok-r.r ≡ c.in_ok-r.r + 1 = omega arith in
    rw (c.in_ok-push.ensures, ← up) (goes_on (kept_at c.args.others.now) next_least c.loop.registers c.args.count c.loop.counter c.loop.least c.loop.rest.now c.in_ok-r.r c.in_ok-r.after.now _ c.loop-test.true c.in_ok-r.ensures.found c.loop.invariant)

pub returns : goal.returns
returns c = is_done (kept_at c.args.others.now) next_least c.loop.registers c.args.count c.loop.counter c.loop.least c.loop.rest.now _ c.loop-test.false c.loop.invariant
