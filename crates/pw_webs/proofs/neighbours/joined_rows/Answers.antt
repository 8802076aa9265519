use Rattle.std.proofs.Common.{◌≡◌, ◌+◌, ◌<◌, ◌∷◌, [], ◌∙◌, ℕ, List, ap, arith, length, length-append, refl, subst, sym}
use Rattle.std.specs.Prelude.{Some, slice_get}
use Rattle.std.proofs.lemmas.Option.{slice_get_read}
use Rattle.pw_webs.proofs.Beside.{joined_put, joined_end}
use Rattle.pw_webs.proofs.neighbours.joined_rows.Goals as goal

pub loop-i-preserved : goal.loop-i-preserved
loop-i-preserved c =
    let ones = c.args.ones.now in
    let others = c.args.others.now in
    let i = c.loop-i.i in
    let now = c.loop-i.rows.items in
    let row = c.in_ok-joined.field-0 in
    let same = c.requires in
    let low = c.loop-i-test.true in
    let lt : i < length others = omega (arith, low, same) in
    let one = subst (λ (r : List ℕ). slice_get ones i ≡ Some r) (sym c.as_slice.ensures) (slice_get_read ones (length ones) i c.index-ones-i.result refl low c.index-ones-i.is) in
    let other = subst (λ (r : List ℕ). slice_get others i ≡ Some r) (sym c.as_slice-in-loop-i.ensures) (slice_get_read others (length others) i c.index-others-i.result refl lt c.index-others-i.is) in
    record {
      count = ap length c.in_ok-push.ensures.items ∙ length-append now (row ∷ []) ∙ ap (λ n. n + 1) c.loop-i.invariant.count;
      either = joined_put ones others now c.push.new.self.items i c.as_slice.result.now c.as_slice-in-loop-i.result.now row one other c.in_ok-joined.ensures c.loop-i.invariant.count c.in_ok-push.ensures.items c.loop-i.invariant.either;
    }

pub returns-clause-either : goal.returns-clause-either
returns-clause-either c = joined_end c.args.ones.now c.args.others.now c.loop-i.rows.items c.loop-i.i c.loop-i-test.false c.requires c.loop-i.invariant.either
