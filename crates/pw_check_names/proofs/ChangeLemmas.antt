-- Lists with one of their items changed, as they show.
use Rattle.std.proofs.Common.{◌≡◌, ℕ, zero, suc, ◌<◌, ◌≤◌, List, [], ◌∷◌, length, map, set, get_or, refl, ap, ◌∙◌, arith}
use Rattle.pw_check_names.specs.LinkedViews.{changed_at}

module _ {X Y : Type 0} (f : X → Y) where
  -- a change past the end, which does not show
  pub map_past : (g : Y → Y) (xs : List X) (n : ℕ) → length xs ≤ n → map f xs ≡ changed_at n g (map f xs)
  map_past g [] n past = refl
  map_past g (x ∷ xs) zero past = absurd (omega arith)
  map_past g (x ∷ xs) (suc n) past = ap (λ ys. f x ∷ ys) (map_past g xs n (omega arith))

  -- a change of one item, as it shows
  pub map_changed : (g : Y → Y) (xs : List X) (i : ℕ) (x new d : X) → i < length xs → x ≡ get_or xs i d → f new ≡ g (f x)
      → map f (set xs i new) ≡ changed_at i g (map f xs)
  map_changed g [] i x new d less is e = absurd (omega arith)
  map_changed g (y ∷ rest) zero x new d less is e = ap (λ z. z ∷ map f rest) (e ∙ ap (λ z. g (f z)) is)
  map_changed g (y ∷ rest) (suc i) x new d less is e = ap (λ zs. f y ∷ zs) (map_changed g rest i x new d (omega arith) is e)

  -- and one that does not show
  pub map_same : (xs : List X) (i : ℕ) (x new d : X) → i < length xs → x ≡ get_or xs i d → f new ≡ f x → map f (set xs i new) ≡ map f xs
  map_same [] i x new d less is e = absurd (omega arith)
  map_same (y ∷ rest) zero x new d less is e = ap (λ z. z ∷ map f rest) (e ∙ ap f is)
  map_same (y ∷ rest) (suc i) x new d less is e = ap (λ zs. f y ∷ zs) (map_same rest i x new d (omega arith) is e)
