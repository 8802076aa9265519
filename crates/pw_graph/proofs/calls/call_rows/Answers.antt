use Rattle.std.proofs.Common.{◌+◌, List, ℕ, map, take, sym, subst}
use Rattle.std.specs.List.{AllZip}
use Rattle.pw_graph.specs.Making.{home, target, callees, IsCallRow}
use Rattle.pw_graph.proofs.Steps.{zip_more}
use Rattle.pw_graph.proofs.Members.{row_of}
use Rattle.pw_graph.proofs.calls.call_rows.Goals as goal

pub loop-home-preserved : goal.loop-home-preserved
loop-home-preserved c =
    let names = c.args.names.now in
    let ts = map target c.args.targets.now in
    let h = c.home-item.result in
    let one = row_of c.in_ok-row.row c.in_ok-listed.field-0 (callees names ts (home h).2) c.in_ok-listed.ensures c.in_ok-row.ensures.holds in
    subst (λ (rows : List (List ℕ)). AllZip (IsCallRow names ts) (map home (take (c.loop-home.home-index + 1) c.args.homes.now)) rows) (sym c.in_ok-push.ensures)
    (zip_more home (IsCallRow names ts) c.args.homes.now c.loop-home.rows c.loop-home.home-index h c.in_ok-listed.field-0 c.loop-home-test.true c.home-item.is c.loop-home.invariant one)
