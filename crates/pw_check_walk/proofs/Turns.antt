-- A rule over lists that takes an item, by the items behind it, and goes on with what that makes: turn by turn.
use Rattle.std.proofs.Common.{◌≡◌, ℕ, ◌+◌, ◌<◌, ◌≤◌, Result, Ok, Err, List, [], ◌∷◌, length, get_or, drop, ap, sym, ◌∙◌}
use Rattle.std.proofs.lemmas.List.{at_drop_more, at_drop_all}
use Rattle.pw_check_walk.specs.declared.constraints.CheckFault.{CheckFault}
use Rattle.pw_check_walk.specs.Calls.{Obeys}
use Rattle.pw_check_walk.specs.Walks.{Walk, bind, outcome}
use Rattle.pw_check_walk.specs.Items.{ItemByItem}
use Rattle.pw_check_walk.proofs.BindLaws.{bind_made}
use Rattle.pw_check_walk.proofs.CallLaws.{made_by, same_call, step_err}

module _ {X A C S : Type 0} (over : List X → A → S → Walk (C × S)) (one : X → List X → A → S → Walk (A × S))
    (split : ItemByItem over one) where
  -- the item at a place, and then what is behind it
  at_place : (xs : List X) (n : ℕ) (x : X) (a : A) (s : S) → n < length xs → x ≡ get_or xs n x
      → over (drop n xs) a s ≡ bind (one x (drop (n + 1) xs) a s) (λ t. over (drop (n + 1) xs) t.0 t.1)
  at_place xs n x a s less is =
      at_drop_more (λ ys. over ys a s) xs n x less
      ∙ ap (λ y. over (y ∷ drop (n + 1) xs) a s) (sym is)
      ∙ split x (drop (n + 1) xs) a s

  -- behind an item that made something the rest decides
  pub turn_made : (xs : List X) (n : ℕ) (x : X) (a c : A) (s mid : S) → n < length xs → x ≡ get_or xs n x
      → outcome (one x (drop (n + 1) xs) a s) ≡ Ok (c, mid)
      → outcome (over (drop n xs) a s) ≡ outcome (over (drop (n + 1) xs) c mid)
  turn_made xs n x a c s mid less is made =
      ap outcome (at_place xs n x a s less is)
      ∙ bind_made (one x (drop (n + 1) xs) a s) (λ t. over (drop (n + 1) xs) t.0 t.1) (c, mid) made

  -- the same of a loop's invariant: what is left comes to what the whole does
  pub turn_kept : {Q : Type 0} {seen : Q → A} {first : Result Q CheckFault} {made : Q} {mid : S} {whole : Result (C × S) CheckFault}
      (xs : List X) (n : ℕ) (x : X) (a : A) (s : S) → whole ≡ outcome (over (drop n xs) a s) → n < length xs → x ≡ get_or xs n x
      → Obeys seen (one x (drop (n + 1) xs) a s) first mid → first ≡ Ok made
      → whole ≡ outcome (over (drop (n + 1) xs) (seen made) mid)
  turn_kept {Q} {seen} {first} {made} {mid} xs n x a s before less is o e =
      before ∙ turn_made xs n x a (seen made) s mid less is (made_by o e)

  -- the fault of an item is that of the whole
  pub turn_stopped : {Q R : Type 0} {seen : Q → A} {view : R → C} {first : Result Q CheckFault} {r : Result R CheckFault} {fault : CheckFault} {mid left : S}
      (whole : Walk (C × S)) (xs : List X) (n : ℕ) (x : X) (a : A) (s : S)
      → outcome whole ≡ outcome (over (drop n xs) a s) → n < length xs → x ≡ get_or xs n x
      → Obeys seen (one x (drop (n + 1) xs) a s) first mid → first ≡ Err fault → r ≡ Err fault
      → Obeys view whole r left
  turn_stopped {Q} {R} {seen} {view} {first} {r} {fault} {mid} {left} whole xs n x a s before less is o stopped same =
      same_call view whole (bind (one x (drop (n + 1) xs) a s) (λ t. over (drop (n + 1) xs) t.0 t.1)) r left
      (before ∙ ap outcome (at_place xs n x a s less is))
      (step_err (λ t. over (drop (n + 1) xs) t.0 t.1) o stopped same)

  -- behind the last item
  pub turns_over : {whole : Result (C × S) CheckFault} (xs : List X) (n : ℕ) (a : A) (s : S)
      → whole ≡ outcome (over (drop n xs) a s) → length xs ≤ n → whole ≡ outcome (over [] a s)
  turns_over xs n a s before end = before ∙ at_drop_all (λ ys. outcome (over ys a s)) xs n end
