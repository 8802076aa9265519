-- Elements of lists, and what temporaries hold when one of them gets a value.
use Rattle.std.specs.Prelude.{ℕ, suc, ◌≡◌, ◌≢◌, ◌<◌, List, [], ◌∷◌, length, map, slice_set, Contains}
use Rattle.std.proofs.Common.{refl, sym, ap, ◌∙◌, arith, inl, inr}
use Rattle.std.proofs.lemmas.Bool.{cases_lt}
use Rattle.std.proofs.lemmas.List.{get_or-set_same, get_or-set_other, get_or_past, length-set}
use Rattle.pw_value.specs.declared.value.Value.{Value}
use Rattle.pw_value.specs.declared.value.Value.TheVariants.{Undefined}
use Rattle.pw_law_opt.specs.Deeds.{value}

pub first_there : {X : Type 0} (x : X) (xs : List X) → Contains (x ∷ xs) x
first_there x xs = (0, omega arith, refl)

pub later_there : {X : Type 0} (y x : X) (xs : List X) → Contains xs x → Contains (y ∷ xs) x
later_there y x xs c = (suc c.0, omega (arith, c.1), c.2)

pub map_twice : {X : Type 0} (v : ℕ → X) (h : ℕ → ℕ) (ts : List ℕ) → map v (map h ts) ≡ map (λ t. v (h t)) ts
map_twice v h [] = refl
map_twice v h (t ∷ ts) = ap (λ vs. v (h t) ∷ vs) (map_twice v h ts)

pub value_there : (ts : List Value) (t : ℕ) (v : Value) → t < length ts → value (slice_set ts t v) t ≡ v
value_there ts t v lt = get_or-set_same ts t v Undefined lt

pub value_elsewhere : (ts : List Value) (t u : ℕ) (v : Value) → u ≢ t → value (slice_set ts t v) u ≡ value ts u
value_elsewhere ts t u v apart = get_or-set_other ts t u v Undefined apart

-- where two lists of temporaries are equally long, what is put into both is the same in both
pub value_in_both : (ts us : List Value) (t : ℕ) (v : Value) → length ts ≡ length us → value (slice_set ts t v) t ≡ value (slice_set us t v) t
value_in_both ts us t v same = elim (cases_lt t (length ts)) [
  | inl lt ↦ get_or-set_same ts t v Undefined lt ∙ sym (get_or-set_same us t v Undefined (omega (arith, lt, same)))
  | inr ge ↦
      let a : length (slice_set ts t v) ≡ length ts = length-set ts t v in
      let b : length (slice_set us t v) ≡ length us = length-set us t v in
      get_or_past (slice_set ts t v) t Undefined (omega (arith, ge, a)) ∙ sym (get_or_past (slice_set us t v) t Undefined (omega (arith, ge, b, same)))
]
