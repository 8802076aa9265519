-- Places of a row at which nothing has one thing any more.
use Rattle.std.proofs.Common.{◌≡◌, ◌∙◌, ℕ, ◌+◌, ◌<◌, ◌≤◌, Bool, true, false, List, length, refl, sym, ap, subst, arith, inl, inr}
use Rattle.std.specs.Prelude.{if◌then◌else◌, slice_set}
use Rattle.std.proofs.lemmas.Bool.{cases_eq}
use Rattle.std.proofs.lemmas.List.{get_or-set_same, get_or-set_other}
use Rattle.pw_opt_rules.specs.declared.flat.Flat.{Flat}
use Rattle.pw_opt_rules.specs.declared.flat.Flat.TheVariants.{Many}
use Rattle.pw_opt_rules.specs.Flat.{is_one}
use Rattle.pw_opt_rules.specs.Rows.{known}
use Rattle.pw_opt_order.specs.Order.{forgotten}

-- the first places are done, and the others are as they were
pub record ForgetsBelow (of : ℕ) (old : List Flat) (count : ℕ) (row : List Flat) : Type 0 where
  pub done : (j : ℕ) → j < count → known row j ≡ forgotten of (known old j)
  pub left : (j : ℕ) → count ≤ j → known row j ≡ known old j

pub forgets_none : (of : ℕ) (old : List Flat) → ForgetsBelow of old 0 old
forgets_none of old = record { done = λ j lt. absurd (omega (arith, lt)); left = λ j le. refl }

-- one place more, which has it
pub forgets_set : (of : ℕ) (old row : List Flat) (n : ℕ) → n < length row → is_one of (known row n) ≡ true → ForgetsBelow of old n row → ForgetsBelow of old (n + 1) (slice_set row n Many)
forgets_set of old row n low one f =
    let was : is_one of (known old n) ≡ true = subst (λ (x : Flat). is_one of x ≡ true) (f.left n (omega arith)) one in
    let here : known (slice_set row n Many) n ≡ forgotten of (known old n) = get_or-set_same row n Many Many low ∙ sym (ap (λ (c : Bool). if c then Many else known old n) was) in
    record {
      done = λ j lt. elim (cases_eq j n) [
        | inl same ↦ subst (λ (k : ℕ). known (slice_set row n Many) k ≡ forgotten of (known old k)) (sym same) here
        | inr other ↦ get_or-set_other row n j Many Many other ∙ f.done j (omega (arith, lt, other))
      ];
      left = λ j le. get_or-set_other row n j Many Many (λ same. absurd (omega (arith, le, same))) ∙ f.left j (omega (arith, le));
    }

-- and one that has it not
pub forgets_stay : (of : ℕ) (old row : List Flat) (n : ℕ) → is_one of (known row n) ≡ false → ForgetsBelow of old n row → ForgetsBelow of old (n + 1) row
forgets_stay of old row n none f =
    let was : is_one of (known old n) ≡ false = subst (λ (x : Flat). is_one of x ≡ false) (f.left n (omega arith)) none in
    let here : known row n ≡ forgotten of (known old n) = f.left n (omega arith) ∙ sym (ap (λ (c : Bool). if c then Many else known old n) was) in
    record {
      done = λ j lt. elim (cases_eq j n) [
        | inl same ↦ subst (λ (k : ℕ). known row k ≡ forgotten of (known old k)) (sym same) here
        | inr other ↦ f.done j (omega (arith, lt, other))
      ];
      left = λ j le. f.left j (omega (arith, le));
    }
