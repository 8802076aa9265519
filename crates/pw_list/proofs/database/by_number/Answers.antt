use Rattle.std.proofs.Common.{List, ℕ, map, ap, sym, ◌∙◌, rules}
use Rattle.std.proofs.lemmas.Fn.{always_returns_same}
use Rattle.std.proofs.lemmas.List.Sorted.{IsNonDecreasingBy-from_sort_by_key, IsPermutation-map}
use Rattle.pw_list.specs.declared.database.Use.{Use}
use Rattle.pw_list.specs.Gathering.{is_of, use_view}
use Rattle.pw_list.proofs.Ordered.{each_stays, filter_view, rising_view}
use Rattle.pw_list.proofs.database.by_number.Goals as goal

pub returns : goal.returns
returns c =
    let xs = c.args.uses.items in
    let ys = c.sort_by_key.new.self.items in
    let sorted = c.in_ok-sort_by_key.ensures.sorted in
    let stable = c.in_ok-sort_by_key.ensures.stable (λ u. u.id) (always_returns_same _ _ _ (λ a r f h. (search rules, search rules))) in
    record {
      order = record {
        rising = rising_view use_view (λ (u : ℕ × List ℕ). u.0) ys (IsNonDecreasingBy-from_sort_by_key (λ (u : Use). u.id) ys sorted (λ a r f h. search rules));
        each = λ n. filter_view use_view (is_of n) ys ∙ ap (map use_view) (each_stays (λ (u : Use). u.id) xs ys stable n) ∙ sym (filter_view use_view (is_of n) xs);
      };
      same = IsPermutation-map use_view xs ys c.in_ok-sort_by_key.ensures.permutation;
    }
