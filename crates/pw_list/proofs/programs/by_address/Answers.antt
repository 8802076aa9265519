use Rattle.std.proofs.Common.{List, ◌==◌, map, ap, sym, subst, ◌∙◌, rules, Bor}
use Rattle.std.specs.Prelude.{filter}
use Rattle.std.specs.List.Sorted.{IsPermutation}
use Rattle.std.proofs.lemmas.Fn.{always_returns_same}
use Rattle.std.proofs.lemmas.List.Sorted.{IsNonDecreasingBy-from_sort_by_key, IsPermutation-map}
use Rattle.pw_image.specs.declared.image.Function.{Function}
use Rattle.pw_list.proofs.Ordered.{each_stays, filter_view, rising_view}
use Rattle.pw_list.proofs.programs.by_address.Goals as goal

pub returns : goal.returns
returns c =
    let xs = c.in_ok-ordered.ordered.items in
    let ys = c.sort_by_key.new.self.items in
    let view : Bor Function → Function = λ f. f.now in
    let sorted = c.in_ok-sort_by_key.ensures.sorted in
    let stable = c.in_ok-sort_by_key.ensures.stable (λ f. f.now.address) (always_returns_same _ _ _ (λ a r f h. (search rules, search rules))) in
    record {
      order = record {
        rising = rising_view view (λ f. f.address) ys (IsNonDecreasingBy-from_sort_by_key (λ (f : Bor Function). f.now.address) ys sorted (λ a r f h. search rules));
        each = λ n. filter_view view (λ f. f.address == n) ys
            ∙ ap (map view) (each_stays (λ (f : Bor Function). f.now.address) xs ys stable n)
            ∙ sym (filter_view view (λ f. f.address == n) xs)
            ∙ ap (filter (λ f. f.address == n)) c.in_ok-ordered.ensures;
      };
      same = subst (λ (fs : List Function). IsPermutation fs (map view ys)) c.in_ok-ordered.ensures (IsPermutation-map view xs ys c.in_ok-sort_by_key.ensures.permutation);
    }
