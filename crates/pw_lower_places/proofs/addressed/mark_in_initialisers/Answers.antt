use Rattle.std.proofs.Common.{◌+◌, drop, arith}
use Rattle.std.proofs.lemmas.Grind.{common_steps}
use Rattle.std.proofs.lemmas.List.{at_drop_more, at_drop_all}
use Rattle.std.specs.List.{flat_map}
use Rattle.pw_typed.specs.Views.{view_initialiser, view_initialisers}
use Rattle.pw_lower.specs.Places.{addressed_in_initialiser}
use Rattle.pw_lower_places.specs.Marks.{marked}
use Rattle.pw_lower_places.proofs.MarkLaws.{marked_none, marked_both}
use Rattle.pw_lower_places.proofs.addressed.mark_in_initialisers.Goals as goal

pub loop-initialiser-preserved : goal.loop-initialiser-preserved
loop-initialiser-preserved c =
    let all = c.args.all.now in
    let i = c.loop-initialiser.initialiser-index in
    let e = c.initialiser-item.result in
    let s = at_drop_more (λ es. marked (flat_map addressed_in_initialiser (view_initialisers es)) c.loop-initialiser.marks) all i e c.loop-initialiser-test.true in
    let b = marked_both (addressed_in_initialiser (view_initialiser e)) (flat_map addressed_in_initialiser (view_initialisers (drop (i + 1) all))) c.loop-initialiser.marks in
    first_of (cc, grind (arith, common_steps))

pub returns : goal.returns
returns c =
    let s = at_drop_all (λ es. marked (flat_map addressed_in_initialiser (view_initialisers es)) c.loop-initialiser.marks) c.args.all.now c.loop-initialiser.initialiser-index c.loop-initialiser-test.false in
    let n = marked_none c.loop-initialiser.marks in
    first_of (cc, grind (arith, common_steps))
