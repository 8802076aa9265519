use Rattle.std.proofs.Common.{ℕ, List, ◌++◌, map, take, sym, ap, ◌∙◌, subst, append_assoc}
use Rattle.pw_link.specs.Layout.{function_site}
use Rattle.pw_link.specs.Views.{Tells, placed_view}
use Rattle.pw_link.proofs.Growing.{map_more_twice}
use Rattle.pw_link.proofs.sites.add_text.Goals as goal

pub loop-each-preserved : goal.loop-each-preserved
loop-each-preserved c = λ sites tells.
    let front = map function_site (map placed_view (take c.loop-each.each-index c.args.text.now)) in
    let more = map_more_twice function_site placed_view c.args.text.now c.loop-each.each-index c.each-item.result c.loop-each-test.true c.each-item.is in
    let h = c.in_ok-add.ensures (sites ++ front) (c.loop-each.invariant sites tells) in
    subst (λ (named : List (List ℕ × ℕ)). Tells c.add.new.names.entries named) (append_assoc sites front _ ∙ ap (λ (rest : List (List ℕ × ℕ)). sites ++ rest) (sym more)) h
