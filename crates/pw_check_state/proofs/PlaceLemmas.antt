-- Lists with one of their items changed, and with one more behind them.
use Rattle.std.proofs.Common.{◌≡◌, ℕ, zero, suc, ◌<◌, ◌≤◌, List, [], ◌∷◌, ◌++◌, length, map, reverse, set, get_or, Option, None, Some, slice_get, refl, ap, ◌∙◌, arith}
use Rattle.std.proofs.lemmas.List.{reverse-append}
use Rattle.std.specs.Option.{option_map_or}
use Rattle.pw_check_rules.specs.States.{put_at}
use Rattle.pw_check_names.specs.LinkedViews.{changed_at}

module _ {X : Type 0} where
  pub put_within : (i : ℕ) (x : X) (xs : List X) → set xs i x ≡ put_at i x xs
  put_within i x [] = refl
  put_within zero x (y ∷ rest) = refl
  put_within (suc i) x (y ∷ rest) = ap (λ ys. y ∷ ys) (put_within i x rest)

  pub put_past : (i : ℕ) (x : X) (xs : List X) → length xs ≤ i → put_at i x xs ≡ xs
  put_past i x [] past = refl
  put_past zero x (y ∷ rest) past = absurd (omega arith)
  put_past (suc i) x (y ∷ rest) past = ap (λ ys. y ∷ ys) (put_past i x rest (omega arith))

  pub changed_put : (n : ℕ) (f : X → X) (xs : List X) → changed_at n f xs ≡ option_map_or (λ x. put_at n (f x) xs) (slice_get xs n) xs
  changed_put n f [] = refl
  changed_put zero f (x ∷ rest) = refl
  changed_put (suc n) f (x ∷ rest) = ap (λ ys. x ∷ ys) (changed_put n f rest) ∙ by (slice_get rest n)
    where
      by : (o : Option X) → (x ∷ option_map_or (λ y. put_at n (f y) rest) o rest) ≡ option_map_or (λ y. x ∷ put_at n (f y) rest) o (x ∷ rest)
      by None = refl
      by (Some y) = refl

module _ {X Y : Type 0} (f : X → Y) where
  pub map_put_at : (n : ℕ) (x : X) (xs : List X) → map f (put_at n x xs) ≡ put_at n (f x) (map f xs)
  map_put_at n x [] = refl
  map_put_at zero x (y ∷ rest) = refl
  map_put_at (suc n) x (y ∷ rest) = ap (λ ys. f y ∷ ys) (map_put_at n x rest)

  pub map_push : (xs : List X) (x : X) → map f (xs ++ x ∷ []) ≡ map f xs ++ f x ∷ []
  map_push [] x = refl
  map_push (y ∷ ys) x = ap (λ zs. f y ∷ zs) (map_push ys x)

  pub length_map : (xs : List X) → length (map f xs) ≡ length xs
  length_map [] = refl
  length_map (x ∷ xs) = ap suc (length_map xs)

  pub reverse_push : (xs : List X) (x : X) → reverse (map f (xs ++ x ∷ [])) ≡ f x ∷ reverse (map f xs)
  reverse_push xs x = ap reverse (map_push xs x) ∙ reverse-append (map f xs) (f x ∷ [])
