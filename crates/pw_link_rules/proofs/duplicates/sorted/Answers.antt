use Rattle.std.proofs.Common.{rules}
use Rattle.std.proofs.lemmas.Fn.{always_returns_same}
use Rattle.std.proofs.lemmas.List.Sorted.{IsPermutation-map}
use Rattle.pw_link_rules.specs.Entries.{definition, stands_before}
use Rattle.pw_link_rules.proofs.Sorted.{sorted_view, ranked}
use Rattle.pw_link_rules.proofs.duplicates.sorted.Goals as goal

pub returns : goal.returns
returns c = record {
  same = IsPermutation-map definition c.args.all.items c.sort_unstable_by.new.self.items c.sort_unstable_by.ensures.permutation;
  order = sorted_view definition stands_before c.sort_unstable_by.new.self.items
      (c.sort_unstable_by.ensures.sorted (λ a b. stands_before (definition a) (definition b)) (ranked definition) (always_returns_same _ _ _ (λ a r f h. (search rules, search rules))));
}
