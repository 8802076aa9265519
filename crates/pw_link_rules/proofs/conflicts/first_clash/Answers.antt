use Rattle.std.proofs.Common.{map, arith}
use Rattle.std.proofs.lemmas.List.{length-map}
use Rattle.pw_link_rules.specs.Entries.{declaration}
use Rattle.pw_link_rules.proofs.Sorted.{get_some}
use Rattle.pw_link_rules.proofs.Clashes.{none_at}
use Rattle.pw_link_rules.proofs.conflicts.first_clash.Goals as goal

pub loop-i-preserved : goal.loop-i-preserved
loop-i-preserved c = none_at (map declaration c.args.all.now) c.loop-i.i c.in-None.ensures c.loop-i.invariant

pub returns : goal.returns
returns c = λ i j t.
    let le = c.loop-i.invariant i j t in
    let r = get_some (map declaration c.args.all.now) i t.low t.low t.at_low in
    omega (arith, le, r.0, length-map c.args.all.now declaration, c.loop-i-test.false)
