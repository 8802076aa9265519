-- Names with linkage by their places.
use Rattle.std.proofs.Common.{◌≡◌, ℕ, suc, ◌+◌, cond, not, nat_lt, List, [], ◌∷◌, length, map, position, bytes_eq, Option, None, Some, refl, ap, ◌∙◌}
use Rattle.std.specs.Cmp.Lexicographic.{nat_list_eq_equiv}
use Rattle.std.specs.List.{position_or_len}
use Rattle.pw_check_names.specs.declared.entity.LinkedName.{LinkedName}
use Rattle.pw_check_names.specs.EntityViews.{view_linked, names_linked}

module _ (name : List ℕ) where
  first_linked : (xs : List LinkedName) → position_or_len (bytes_eq name) (names_linked xs) ≡ position_or_len (λ l. bytes_eq l.name name) (map view_linked xs)
  first_linked [] = refl
  first_linked (x ∷ xs) =
      ap (λ b. cond (not b) (1 + position_or_len (bytes_eq name) (names_linked xs)) 0) (nat_list_eq_equiv.symm name x.name.now)
      ∙ ap (λ n. cond (not (bytes_eq x.name.now name)) (1 + n) 0) (first_linked xs)

  length_linked : (xs : List LinkedName) → length (names_linked xs) ≡ length (map view_linked xs)
  length_linked [] = refl
  length_linked (x ∷ xs) = ap suc (length_linked xs)

  position_step : (m n k l : ℕ) → m ≡ n → k ≡ l → cond (nat_lt m k) (Some m) None ≡ cond (nat_lt n l) (Some n) None
  position_step m n k l e f = rw (e, f) refl

  -- the place of a name among the names is that among what they are of
  pub position_linked : (xs : List LinkedName) → position (bytes_eq name) (names_linked xs) ≡ position (λ l. bytes_eq l.name name) (map view_linked xs)
  position_linked xs =
      position_step (position_or_len (bytes_eq name) (names_linked xs)) (position_or_len (λ l. bytes_eq l.name name) (map view_linked xs))
      (length (names_linked xs)) (length (map view_linked xs)) (first_linked xs) (length_linked xs)
