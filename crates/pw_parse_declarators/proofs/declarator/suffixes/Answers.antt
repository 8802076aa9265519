use Rattle.std.proofs.Common.{rules, arith}
use Rattle.std.proofs.lemmas.Grind.{common_steps}
use Rattle.pw_parse_cursor.specs.CursorViews.{view_bindings}
use Rattle.pw_parse_cursor.specs.PartViews.{view_behind}
use Rattle.pw_parse_cursor.proofs.Loops.{unrolled, goes, runs_out}
use Rattle.pw_parse_declarators.proofs.Pairs.{suffixes_before, suffixes_kept, suffixes_end}
use Rattle.pw_parse_declarators.proofs.declarator.suffixes.Goals as goal

pub returns-in_err-item : goal.returns-in_err-item
returns-in_err-item g c =
    let e = unrolled _ _ c.loop-turn-test.true c.loop-turn.invariant in
    first_of (search rules, grind (arith, common_steps))

pub returns-in_default : goal.returns-in_default
returns-in_default g c =
    let e = unrolled _ _ c.loop-turn-test.true c.loop-turn.invariant in
    let s = suffixes_end c.loop-turn.found.items (view_behind c.loop-turn.first) in
    first_of (search rules, grind (arith, common_steps))

pub loop-turn-preserved : goal.loop-turn-preserved
loop-turn-preserved g c =
    let s = c.in-Some.item in
    goes _ _ c.loop-turn-test.true c.loop-turn.invariant (suffixes_before c.push.new.self.items (view_behind c.first_of-first.result)) (first_of (search rules, grind (arith, common_steps)))
    (suffixes_kept c.loop-turn.found.items (view_behind c.loop-turn.first) s.suffix (view_bindings s.bindings) c.push.new.self.items (view_behind c.first_of-first.result) (first_of (search rules, grind (arith, common_steps))) (first_of (search rules, grind (arith, common_steps))))

pub returns : goal.returns
returns g c _ = runs_out _ _ c.loop-turn-test.false c.loop-turn.invariant
