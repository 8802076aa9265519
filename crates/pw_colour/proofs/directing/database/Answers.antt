use Rattle.std.proofs.Common.{◌≡◌, ◌<◌, ◌∙◌, [], ℕ, List, get_or, length, map, subst, sym}
use Rattle.pw_webs.proofs.WalkLaws.{item_at}
use Rattle.pw_colour.specs.Giving.{coloured as seen}
use Rattle.pw_colour.proofs.Entries.{entries_put, entries_skip}
use Rattle.pw_colour.proofs.directing.database.Goals as goal
use Rattle.pw_colour.proofs.directing.database.Goals.{then-say_something+in_ok-copy+in_ok-push, else-say_something}

pub loop-place-preserved : goal.loop-place-preserved
loop-place-preserved c =
    let g = c.args.graph.now in
    let roots = c.args.clusters.roots.now in
    let ws = map seen c.args.coloured.now in
    let fs = g.functions in
    let i = c.loop-place.place in
    let d = c.in_ok-directives.directives in
    let low = c.loop-place-test.true in
    let lt : i < length fs = subst (λ (xs : List (List ℕ)). i < length xs) c.as_slice-functions.ensures low in
    elim c.if-say_something.branch [
      | then-say_something+in_ok-copy+in_ok-push w ↦
          let index = w.index-functions-place.result in
          let there : index ≡ get_or fs i index = subst (λ (xs : List (List ℕ)). index ≡ get_or xs i index) c.as_slice-functions.ensures w.index-functions-place.is in
          let name = w.in_ok-copy.field-0 in
          let at : name ≡ get_or fs i name = subst (λ (x : List ℕ). x ≡ get_or fs i x) (sym w.in_ok-copy.ensures) there in
          rw w.entries-is (entries_put g roots ws fs i name d c.loop-place.entries w.push.new.self lt at c.in_ok-directives.ensures (sym c.say_something.ensures ∙ w.if-say_something.true) w.in_ok-push.ensures c.loop-place.invariant)
      | else-say_something w ↦
          rw w.entries-is (entries_skip g roots ws fs i (get_or fs i []) d c.loop-place.entries lt (item_at fs i [] lt) c.in_ok-directives.ensures (sym c.say_something.ensures ∙ w.if-say_something.false) c.loop-place.invariant)
    ]
