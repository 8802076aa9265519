use Rattle.std.proofs.Common.{rules}
use Rattle.std.proofs.lemmas.Fn.{always_returns_same}
use Rattle.pw_colour.proofs.Ranks.{saves_more, is_order, sorted_order}
use Rattle.pw_colour.proofs.ranking.ranked.Goals as goal

pub returns-clause-order : goal.returns-clause-order
returns-clause-order c =
    sorted_order c.args.webs.items c.sort_by.new.self.items c.requires
    (c.in_ok-sort_by.ensures.sorted saves_more is_order (always_returns_same _ _ _ (λ a r f h. (search rules, search rules))))
    (c.sort_by.ensures.stable saves_more is_order (always_returns_same _ _ _ (λ a r f h. (search rules, search rules))))
