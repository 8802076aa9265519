use Rattle.std.proofs.Common.{nat_cmp, rules}
use Rattle.std.specs.Ordering.{is_lt}
use Rattle.std.specs.Cmp.Lexicographic.{slice_cmp}
use Rattle.std.proofs.lemmas.Cmp.{nat_list_cmp_total}
use Rattle.std.proofs.lemmas.Fn.{always_returns_same}
use Rattle.std.proofs.lemmas.List.Sorted.{ranks_by}
use Rattle.pw_files.proofs.ByteOrder.{sorted_rises}
use Rattle.pw_graph.specs.declared.homes.Home.{Home}
use Rattle.pw_graph.specs.Making.{home, all_homes}
use Rattle.pw_graph.proofs.Lists.{sorted_count}
use Rattle.pw_graph.proofs.homes.sorted_homes.Goals as goal

pub returns : goal.returns
returns c =
    let up = c.sort_unstable_by.ensures.sorted (λ a b. is_lt (slice_cmp nat_cmp a.name.now b.name.now)) (ranks_by nat_list_cmp_total (λ (h : Home). h.name.now)) (always_returns_same _ _ _ (λ a r f h. (search rules, search rules))) in
    record {
      order = sorted_rises home (λ h. h.0) (all_homes c.args.summaries.now) c.in_ok-all.all.items c.sort_unstable_by.new.self.items c.in_ok-all.ensures c.requires.distinct c.sort_unstable_by.ensures.permutation up;
      count = sorted_count home (all_homes c.args.summaries.now) c.in_ok-all.all.items c.sort_unstable_by.new.self.items c.in_ok-all.ensures c.sort_unstable_by.ensures.permutation;
    }
