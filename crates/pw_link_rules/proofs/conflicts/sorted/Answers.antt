use Rattle.std.proofs.Common.{rules}
use Rattle.std.proofs.lemmas.Fn.{always_returns_same}
use Rattle.std.proofs.lemmas.List.Sorted.{IsPermutation-map}
use Rattle.pw_link_rules.specs.Entries.{declaration, key, stands_before}
use Rattle.pw_link_rules.proofs.Sorted.{sorted_view, ranked}
use Rattle.pw_link_rules.proofs.conflicts.sorted.Goals as goal

pub returns : goal.returns
returns c = record {
  same = IsPermutation-map declaration c.args.all.items c.sort_unstable_by.new.self.items c.sort_unstable_by.ensures.permutation;
  order = sorted_view declaration (λ a b. stands_before (key a) (key b)) c.sort_unstable_by.new.self.items
      (c.sort_unstable_by.ensures.sorted (λ a b. stands_before (key (declaration a)) (key (declaration b))) (ranked (λ d. key (declaration d))) (always_returns_same _ _ _ (λ a r f h. (search rules, search rules))));
}
