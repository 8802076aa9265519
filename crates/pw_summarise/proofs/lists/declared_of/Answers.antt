use Rattle.std.proofs.Common.{ℕ, List, nat_cmp, rules, subst, ◌∙◌}
use Rattle.std.specs.Ordering.{is_lt}
use Rattle.std.specs.Cmp.Lexicographic.{slice_cmp}
use Rattle.std.proofs.lemmas.Cmp.{nat_list_cmp_total}
use Rattle.std.proofs.lemmas.Fn.{always_returns_same}
use Rattle.std.proofs.lemmas.List.{map-id}
use Rattle.std.proofs.lemmas.List.Sorted.{ranks_by}
use Rattle.pw_summarise.specs.Summarises.{IsOrdered}
use Rattle.pw_summarise.proofs.Orders.{ordered_by_sort}
use Rattle.pw_summarise.proofs.lists.declared_of.Goals as goal

pub returns : goal.returns
returns c =
    let up = c.sort_unstable_by.ensures.sorted (λ a b. is_lt (slice_cmp nat_cmp a.0 b.0)) (ranks_by nat_list_cmp_total (λ (d : List ℕ × List ℕ). d.0)) (always_returns_same _ _ _ (λ a r f h. (search rules, search rules))) in
    rw c.from_vec.ensures (subst (λ (ds : List (List ℕ × List ℕ)). IsOrdered (λ d. d.0) c.args.declared.now ds) (map-id c.sort_unstable_by.new.self.items)
    (ordered_by_sort (λ (d : List ℕ × List ℕ). d) (λ d. d.0) c.args.declared.now c.in_ok-sorted.sorted.items c.sort_unstable_by.new.self.items (map-id c.in_ok-sorted.sorted.items ∙ c.in_ok-sorted.ensures) c.requires c.sort_unstable_by.ensures.permutation up))
