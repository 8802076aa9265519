use Rattle.std.proofs.Common.{rules}
use Rattle.std.proofs.lemmas.Fn.{always_returns_same}
use Rattle.pw_alloc_weights.proofs.Ranking.{weighs_more, is_order, sorted_order}
use Rattle.pw_alloc_weights.proofs.order.sorted.Goals as goal

pub returns-clause-order : goal.returns-clause-order
returns-clause-order c =
    sorted_order c.args.all.items c.sort_by.new.self.items c.requires
    (c.in_ok-sort_by.ensures.sorted weighs_more is_order (always_returns_same _ _ _ (λ a r f h. (search rules, search rules))))
    (c.sort_by.ensures.stable weighs_more is_order (always_returns_same _ _ _ (λ a r f h. (search rules, search rules))))
