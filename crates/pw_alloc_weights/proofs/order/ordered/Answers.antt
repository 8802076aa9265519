use Rattle.std.proofs.Common.{◌≡◌, ◌∙◌, ℕ, List, arith, length, map, sym, ap, subst}
use Rattle.std.specs.List.Sorted.{IsPermutation}
use Rattle.pw_db.specs.Database.{EachTwo}
use Rattle.pw_alloc_weights.specs.Ordering.{numbered, Rises}
use Rattle.pw_alloc_weights.specs.declared.order.Weighed.{Weighed}
use Rattle.pw_alloc_weights.proofs.Ranking.{numbered_rises, order_is}
use Rattle.pw_alloc_weights.proofs.order.ordered.Goals as goal

pub sorted-requires : goal.sorted-requires
sorted-requires c = subst (EachTwo Rises) (sym (c.in_ok-weighed.ensures ∙ ap (numbered 0) c.deref.ensures.value)) (numbered_rises 0 c.in_ok-weights.weights.items)

pub with_weights-requires : goal.with_weights-requires
with_weights-requires c =
    let ws = c.in_ok-weights.weights in
    let same : length c.deref.result.now ≡ length ws.items = ap (λ (xs : List ℕ). length xs) c.deref.ensures.value in
    omega (arith, same, ws.ok.0, c.in_ok-weights.ensures.count, c.temps-temps.ensures)

pub returns : goal.returns
returns c =
    let f = c.args.f.now in
    let ws = c.in_ok-weights.weights in
    let all = c.in_ok-all.all.items in
    let made = c.in_ok-weighed.ensures ∙ ap (numbered 0) c.deref.ensures.value in
    c.in_ok-order.ensures ∙ ap (map (λ (w : Weighed). w.temp)) c.deref-2.ensures.value
    ∙ order_is f ws.items all (sym ws.ok.0 ∙ c.in_ok-weights.ensures.count) c.in_ok-weights.ensures.each
    (subst (λ (xs : List Weighed). IsPermutation xs all) made c.in_ok-all.ensures.same) c.in_ok-all.ensures.order
