use Rattle.std.proofs.Common.{◌<◌, ◌++◌, ◌∷◌, [], ◌∙◌, ℕ, List, ap, arith, get_or, length, refl, set, sym}
use Rattle.std.proofs.lemmas.Option.{slice_get_read}
use Rattle.pw_webs.proofs.WalkLaws.{item_at}
use Rattle.pw_webs.proofs.Beside.{caller_put, caller_end}
use Rattle.pw_webs.proofs.neighbours.add_caller.Goals as goal

pub loop-callee-preserved : goal.loop-callee-preserved
loop-callee-preserved c =
    let cs = c.args.callees.now in
    let i = c.loop-callee.callee-index in
    let p = get_or cs i 0 in
    let rows = c.loop-callee.rows in
    let old = c.index-rows-callee.result in
    let below = c.requires i 0 c.loop-callee-test.true in
    let same = c.loop-callee.auto.rows in
    let lt : p < length rows = omega (arith, below, same) in
    let there = slice_get_read rows (length rows) p old refl lt c.index-rows-callee.is in
    let pushed = c.in_ok-push.ensures ∙ ap (λ (r : List ℕ). r ++ c.args.caller ∷ []) (sym c.index-rows-callee.is) in
    caller_put cs i p c.args.caller c.args.rows.now rows (set rows p c.push.new.self) old c.push.new.self c.loop-callee-test.true (item_at cs i 0 c.loop-callee-test.true) there pushed refl c.loop-callee.invariant

pub returns : goal.returns
returns c = caller_end c.args.callees.now c.loop-callee.callee-index c.args.caller c.args.rows.now c.loop-callee.rows c.loop-callee-test.false c.loop-callee.invariant
