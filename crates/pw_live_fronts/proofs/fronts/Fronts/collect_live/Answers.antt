use Rattle.std.proofs.Common.{◌≡◌, ◌-◌, ◌<◌, rules, ap, arith, ◌∙◌}
use Rattle.std.specs.Prelude.{slice_get, vec_len}
use Rattle.std.proofs.lemmas.Option.{slice_get_read}
use Rattle.pw_live_fronts.proofs.Collecting.{found_more, found_all, live_is}
use Rattle.pw_live_fronts.proofs.fronts.Fronts.collect_live.Goals as goal

pub overflow_add-at : goal.overflow_add-at
overflow_add-at c = let found = c.in-Some.ensures.found in let lt = found.1 in first_of (omega (arith, lt), search rules, grind arith)

pub loop-i-preserved : goal.loop-i-preserved
loop-i-preserved c = λ t.
    let found = c.in-Some.ensures.found in
    found_more c.args.self.now.exposed c.index-row.result.now c.loop-i.at c.in-Some.i t c.loop-i.live.items c.push_named.new.live.items found.0 found.2 c.in-Some.ensures.least (c.in_ok-push_named.ensures t) (c.loop-i.invariant t)

pub returns : goal.returns
returns c = λ t.
    let v = c.args.self.now in
    let row = c.index-row.result.now in
    let lt = c.requires in
    let many = c.len.ensures in
    let place : c.len.result - 1 - c.args.block < vec_len v.rows = omega (arith, lt, many) in
    let same : vec_len v.rows - 1 - c.args.block ≡ c.len.result - 1 - c.args.block = omega (arith, many) in
    live_is v c.args.block t row c.loop-i.live.items (ap (slice_get v.rows.items) same ∙ slice_get_read v.rows.items (vec_len v.rows) (c.len.result - 1 - c.args.block) row v.rows.ok.0 place c.index-row.ensures)
    (found_all v.exposed row c.loop-i.at t c.loop-i.live.items c.in_default.ensures.none (c.loop-i.invariant t))
