-- The first place of a name in a list, and in a list with a name more.
use Rattle.std.proofs.Common.{◌≡◌, ℕ, suc, ◌+◌, ◌≤◌, Bool, true, false, cond, eqb, List, [], ◌∷◌, ◌++◌, length, Option, None, Some, is_some, position, bytes_eq, if◌then◌else◌, nat_lt, ◌||◌, not, refl, ap, sym, subst, ◌∙◌, arith}
use Rattle.std.proofs.lemmas.Grind.{common_steps}
use Rattle.std.proofs.lemmas.List.Folds.{position_or_len_push}
use Rattle.std.proofs.lemmas.Slice.Eq.{bytes_eq-Decides}
use Rattle.std.specs.List.{list_any, position_or_len}
use Rattle.std.specs.Option.{option_or}
use Rattle.pw_scope.specs.Visible.{visible}
use Rattle.pw_scope.proofs.Visibility.{visible-declared, option_or-none}
use Rattle.std.specs.Borrow.{Bor}
use Rattle.pw_check_names.specs.Names.{TellsFirst, noted, texts}

module _ {X : Type 0} (p : X → Bool) where
  position_or_len-le : (xs : List X) → position_or_len p xs ≤ length xs
  position_or_len-le [] = omega arith
  position_or_len-le (x ∷ xs) = by (p x) (position_or_len-le xs)
    where
      by : (b : Bool) → position_or_len p xs ≤ length xs → cond (not b) (1 + position_or_len p xs) 0 ≤ length (x ∷ xs)
      by true rest = omega arith
      by false rest = omega arith

  some_step : (n l : ℕ) (b c : Bool) → is_some (cond (nat_lt n l) (Some n) None) ≡ c
      → is_some (cond (nat_lt (cond (not b) (1 + n) 0) (suc l)) (Some (cond (not b) (1 + n) 0)) None) ≡ (b || c)
  some_step n l b c e = grind (arith, common_steps)

  -- there is a place where one passes
  pub position_found : (xs : List X) → is_some (position p xs) ≡ list_any p xs
  position_found [] = refl
  position_found (x ∷ xs) = some_step (position_or_len p xs) (length xs) (p x) (list_any p xs) (position_found xs)

  push_step : (n l m k : ℕ) (b : Bool) → n ≤ l → m ≡ cond (eqb n l) (l + cond b 0 1) n → k ≡ l + 1
      → cond (nat_lt m k) (Some m) None ≡ option_or (cond (nat_lt n l) (Some n) None) (cond b (Some l) None)
  push_step n l m k b h e f = grind (arith, common_steps)

  length-push : (xs : List X) (x : X) → length (xs ++ x ∷ []) ≡ length xs + 1
  length-push xs x = grind (arith, common_steps)

  -- with one more behind the others
  pub position_push : (xs : List X) (x : X) → position p (xs ++ x ∷ []) ≡ option_or (position p xs) (if p x then Some (length xs) else None)
  position_push xs x =
      push_step (position_or_len p xs) (length xs) (position_or_len p (xs ++ x ∷ [])) (length (xs ++ x ∷ [])) (p x)
      (position_or_len-le xs) (position_or_len_push p xs x) (length-push xs x)

module _ (names : List (List ℕ)) (places : List (List ℕ × ℕ)) (pushed : List ℕ) (place : ℕ)
    (tells : TellsFirst names places) (at : place ≡ length names) where
  same_place : (name : List ℕ) → bytes_eq name pushed ≡ true → position (bytes_eq name) names ≡ visible places pushed
  same_place name same = ap (λ n. position (bytes_eq n) names) ((bytes_eq-Decides name pushed).0 same) ∙ sym (tells pushed)

  -- a new name comes first at the end
  new_name : visible places pushed ≡ None → (name : List ℕ) (b : Bool) → bytes_eq name pushed ≡ b
      → (if bytes_eq name pushed then Some place else visible places name)
      ≡ option_or (position (bytes_eq name) names) (if bytes_eq name pushed then Some (length names) else None)
  new_name none name true same = rw (same, same_place name same, none) (ap Some at)
  new_name none name false other = rw other (tells name ∙ sym (option_or-none (position (bytes_eq name) names)))

  first : (o p : Option ℕ) → (n : ℕ) → o ≡ Some n → o ≡ option_or o p
  first o p n e = rw e refl

  -- and a name that came before keeps its place
  old_name : (n : ℕ) → visible places pushed ≡ Some n → (name : List ℕ) (b : Bool) → bytes_eq name pushed ≡ b
      → visible places name
      ≡ option_or (position (bytes_eq name) names) (if bytes_eq name pushed then Some (length names) else None)
  old_name n some name true same =
      tells name ∙ first (position (bytes_eq name) names) (if bytes_eq name pushed then Some (length names) else None) n (same_place name same ∙ some)
  old_name n some name false other = rw other (tells name ∙ sym (option_or-none (position (bytes_eq name) names)))

  by_place : (o : Option ℕ) → visible places pushed ≡ o → TellsFirst (names ++ pushed ∷ []) (noted places pushed place)
  by_place None none = λ name.
      rw none (visible-declared places pushed name place ∙ new_name none name (bytes_eq name pushed) refl ∙ sym (position_push (bytes_eq name) names pushed))
  by_place (Some n) some = λ name.
      rw some (old_name n some name (bytes_eq name pushed) refl ∙ sym (position_push (bytes_eq name) names pushed))

texts_pushed : (names new : List (Bor (List ℕ))) (name : Bor (List ℕ)) → new ≡ names ++ name ∷ [] → texts new ≡ texts names ++ name.now ∷ []
texts_pushed names new name e = ap texts e ∙ by names
  where
    by : (ns : List (Bor (List ℕ))) → texts (ns ++ name ∷ []) ≡ texts ns ++ name.now ∷ []
    by [] = refl
    by (n ∷ ns) = ap (λ xs. n.now ∷ xs) (by ns)

length_texts : (names : List (Bor (List ℕ))) → length (texts names) ≡ length names
length_texts [] = refl
length_texts (n ∷ ns) = ap suc (length_texts ns)

-- the table of a list with a name more
pub TellsFirst-pushed :
    (names new : List (Bor (List ℕ))) (places after : List (List ℕ × ℕ)) (pushed : Bor (List ℕ)) (place : ℕ)
    → TellsFirst (texts names) places → place ≡ length names → new ≡ names ++ pushed ∷ []
    → after ≡ noted places pushed.now place → TellsFirst (texts new) after
TellsFirst-pushed names new places after pushed place tells at more is =
    subst (λ ns. TellsFirst ns after) (sym (texts_pushed names new pushed more))
    (subst (TellsFirst (texts names ++ pushed.now ∷ [])) (sym is)
    (by_place (texts names) places pushed.now place tells (at ∙ sym (length_texts names)) (visible places pushed.now) refl))
