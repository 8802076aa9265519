use Rattle.std.proofs.Common.{◌≡◌, ◌<◌, ap, arith, get_or, length, sym}
use Rattle.std.proofs.lemmas.Option.{get_or_from_slice_get}
use Rattle.pw_colour.proofs.GraphOne.{item_there}
use Rattle.std.specs.Prelude.{None}
use Rattle.pw_webs.proofs.WalkLaws.{item_at}
use Rattle.pw_colour.proofs.Numbered.{few_found, found_none, found_some}
use Rattle.pw_colour.proofs.directing.numbered.Goals as goal
use Rattle.pw_colour.proofs.directing.numbered.Goals.{in-Some+in_ok-push-in-Some, in-None}

pub overflow_cast-id : goal.overflow_cast-id
overflow_cast-id c =
    let found = c.loop-i.found in
    let low = c.loop-i-test.true in
    let few = few_found c.args.webs.now c.args.registers.now c.loop-i.i found.items (omega (arith, low)) c.loop-i.invariant in
    let size = c.len-id.ensures in
    let long = found.ok.0 in
    let most = c.requires.few in
    omega (arith, low, few, size, long, most)

pub loop-i-preserved : goal.loop-i-preserved
loop-i-preserved c =
    let ws = c.args.webs.now in
    let rs = c.args.registers.now in
    let i = c.loop-i.i in
    let found = c.loop-i.found in
    let lw = c.loop-i-test.true in
    let same = c.requires.count in
    let lr : i < length rs = omega (arith, lw, same) in
    elim c.match-registers-i.branch [
      | in-Some+in_ok-push-in-Some w ↦
          let size = w.len-id.ensures in
          let long = found.ok.0 in
          let count : w.len-id.result ≡ length found.items = omega (arith, size, long) in
          rw w.found-is (found_some ws rs i w.index-webs-i.result (get_or rs i None) w.in-Some.reg found.items w.push.new.self.items _ lw lr w.index-webs-i.is (item_at rs i None lr) w.in-Some.is
          w.in_ok-push-in-Some.ensures.items (ap (λ n. (n, w.index-webs-i.result, w.in-Some.reg)) count) c.loop-i.invariant)
      | in-None w ↦
          let p = item_there ws i lw in
          rw w.found-is (found_none ws rs i p.0 (get_or rs i None) found.items lw lr (sym (get_or_from_slice_get ws i p.0 p.0 p.1)) (item_at rs i None lr) w.in-None.is c.loop-i.invariant)
    ]
