-- The switches around, of which the innermost stands last in the code's list and first in the rules'.
use Rattle.std.proofs.Common.{◌≡◌, ℕ, suc, ◌-◌, not, List, [], ◌∷◌, ◌++◌, length, map, reverse, set, take, get_or, Option, None, Some, is_some, slice_get, option_map, refl, ap, sym, subst, ◌∙◌, arith}
use Rattle.std.proofs.lemmas.Grind.{common_steps}
use Rattle.std.proofs.lemmas.Option.{none-some, slice_get_within, slice_get-get_or, slice_get_read}
use Rattle.std.specs.Borrow.{Bor}
use Rattle.std.specs.Option.{option_copied}
use Rattle.pw_check_rules.specs.States.{SwitchState}
use Rattle.pw_check_rules.specs.Leaves.{is_nil}
use Rattle.pw_check_rules.specs.Statements.{change_switches, first_switch}
use Rattle.pw_check_names.proofs.NestingLaws.{last_split}
use Rattle.pw_check_state.proofs.PlaceLemmas.{reverse_push}

set_end : {X : Type 0} (xs : List X) (w new : X) → set (xs ++ w ∷ []) (length xs) new ≡ xs ++ new ∷ []
set_end [] w new = refl
set_end (x ∷ xs) w new = ap (λ ys. x ∷ ys) (set_end xs w new)

no_items : {X : Type 0} (xs : List X) → slice_get xs (length xs - 1) ≡ None → xs ≡ []
no_items [] e = refl
no_items (x ∷ xs) e = absurd (none-some _ (sym e ∙ slice_get-get_or (x ∷ xs) (length (x ∷ xs) - 1) x (omega arith)))

module _ {X : Type 0} (f : X → SwitchState) where
  -- the innermost one
  pub first_last : (xs : List X) (o : Option X) → o ≡ slice_get xs (length xs - 1) → option_map f o ≡ first_switch (reverse (map f xs))
  first_last xs None e = rw (no_items xs (sym e)) refl
  first_last xs (Some w) e =
      let cut : xs ≡ take (length xs - 1) xs ++ w ∷ [] = last_split xs (length xs - 1) w (omega (arith, slice_get_within xs (length xs - 1) w (sym e))) (sym e) in
      sym (ap (λ ys. first_switch (reverse (map f ys))) cut ∙ ap first_switch (reverse_push f (take (length xs - 1) xs) w))

  changed_end : (g : SwitchState → SwitchState) (rest : List X) (w new : X) → f new ≡ g (f w)
      → reverse (map f (set (rest ++ w ∷ []) (length rest) new)) ≡ change_switches g (reverse (map f (rest ++ w ∷ [])))
  changed_end g rest w new e =
      ap (λ ys. reverse (map f ys)) (set_end rest w new)
      ∙ reverse_push f rest new
      ∙ ap (λ x. x ∷ reverse (map f rest)) e
      ∙ sym (ap (change_switches g) (reverse_push f rest w))

  -- a change of it
  pub last_changed : (g : SwitchState → SwitchState) (xs : List X) (n : ℕ) (w new : X) → suc n ≡ length xs → w ≡ get_or xs n w → f new ≡ g (f w)
      → reverse (map f (set xs n new)) ≡ change_switches g (reverse (map f xs))
  last_changed g xs n w new e at shows =
      let found : slice_get xs n ≡ Some w = slice_get_read xs (length xs) n w refl (omega arith) at in
      let cut : xs ≡ take n xs ++ w ∷ [] = last_split xs n w e found in
      let count : n ≡ length (take n xs) = grind (arith, common_steps) in
      subst (λ ys. reverse (map f (set ys n new)) ≡ change_switches g (reverse (map f ys))) (sym cut)
      (subst (λ k. reverse (map f (set (take n xs ++ w ∷ []) k new)) ≡ change_switches g (reverse (map f (take n xs ++ w ∷ [])))) (sym count)
      (changed_end g (take n xs) w new shows))

  -- none of them
  pub none_changed : (g : SwitchState → SwitchState) (xs : List X) → length xs ≡ 0 → reverse (map f xs) ≡ change_switches g (reverse (map f xs))
  none_changed g [] e = refl
  none_changed g (x ∷ xs) e = absurd (omega arith)

  -- whether there is one
  pub some_shown : (o : Option (Bor X)) → is_some (option_map f (option_copied o)) ≡ is_some o
  some_shown None = refl
  some_shown (Some x) = refl

pub some_innermost : (ws : List SwitchState) → not (is_nil ws) ≡ is_some (first_switch ws)
some_innermost [] = refl
some_innermost (w ∷ rest) = refl
