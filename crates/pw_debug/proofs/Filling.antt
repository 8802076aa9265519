-- A list that is filled from its front.
use Rattle.std.proofs.Common.{◌≡◌, ℕ, ◌+◌, ◌<◌, List, [], ◌∷◌, ◌++◌, length, map, set, take, arith, sym, ap, ◌∙◌}
use Rattle.std.specs.List.{range_with_len}
use Rattle.std.proofs.lemmas.List.{take_all, take_more_set}
use Rattle.std.proofs.lemmas.List.FromFn.{map-range_with_len_more}

pub one_more : (f : ℕ → ℕ) (xs : List ℕ) (r i v : ℕ) → i ≡ r → v ≡ f r → r < length xs → take r xs ≡ map f (range_with_len 0 r) → take (r + 1) (set xs i v) ≡ map f (range_with_len 0 (r + 1))
one_more f xs r i v at is below so_far =
    ap (λ k. take (r + 1) (set xs k v)) at ∙ ap (λ u. take (r + 1) (set xs r u)) is ∙ take_more_set xs r (f r) below ∙ ap (λ front. front ++ f r ∷ []) so_far ∙ sym (map-range_with_len_more f 0 r r (omega (arith)))

pub all_filled : (f : ℕ → ℕ) (xs : List ℕ) (r n : ℕ) → length xs ≡ n → r ≡ n → take r xs ≡ map f (range_with_len 0 r) → xs ≡ map f (range_with_len 0 n)
all_filled f xs r n long at so_far = sym (take_all n xs (omega (arith, long))) ∙ ap (λ k. take k xs) (sym at) ∙ so_far ∙ ap (λ k. map f (range_with_len 0 k)) at
