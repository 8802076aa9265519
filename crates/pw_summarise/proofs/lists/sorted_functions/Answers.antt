use Rattle.std.proofs.Common.{Bor, nat_cmp, rules}
use Rattle.std.specs.Ordering.{is_lt}
use Rattle.std.specs.Cmp.Lexicographic.{slice_cmp}
use Rattle.std.proofs.lemmas.Cmp.{nat_list_cmp_total}
use Rattle.std.proofs.lemmas.Fn.{always_returns_same}
use Rattle.std.proofs.lemmas.List.Sorted.{ranks_by}
use Rattle.pw_flow.specs.declared.flow.FlowFn.{FlowFn}
use Rattle.pw_summarise.proofs.Orders.{ordered_by_sort}
use Rattle.pw_summarise.proofs.lists.sorted_functions.Goals as goal

pub returns : goal.returns
returns c =
    let up = c.sort_unstable_by.ensures.sorted (λ a b. is_lt (slice_cmp nat_cmp a.now.name b.now.name)) (ranks_by nat_list_cmp_total (λ (f : Bor FlowFn). f.now.name)) (always_returns_same _ _ _ (λ a r f h. (search rules, search rules))) in
    ordered_by_sort (λ (f : Bor FlowFn). f.now) (λ f. f.name) c.args.functions.now c.in_ok-sorted.sorted.items c.sort_unstable_by.new.self.items c.in_ok-sorted.ensures c.requires c.sort_unstable_by.ensures.permutation up
