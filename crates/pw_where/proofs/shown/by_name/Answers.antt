use Rattle.std.proofs.Common.{rules}
use Rattle.std.proofs.lemmas.Fn.{always_returns_same}
use Rattle.pw_where.specs.Shown.{is_before}
use Rattle.pw_where.proofs.Lists.{by_name_ranks}
use Rattle.pw_where.proofs.shown.by_name.Goals as goal

pub returns : goal.returns
returns c = record {
  same = c.sort_by.ensures.permutation;
  order = c.in_ok-sort_by.ensures.sorted is_before by_name_ranks (always_returns_same _ _ _ (λ a r f h. (search rules, search rules)));
  stable = c.sort_by.ensures.stable is_before by_name_ranks (always_returns_same _ _ _ (λ a r f h. (search rules, search rules)));
}
