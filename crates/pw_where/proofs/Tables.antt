-- Tables of marks.
use Rattle.std.proofs.Common.{◌≡◌, ◌≢◌, ℕ, zero, suc, ◌-◌, ◌<◌, ◌≤◌, ◌==◌, Bool, true, false, cond, List, [], ◌∷◌, length, map, take, set, get_or, replicate, refl, sym, ap, subst, ◌∙◌, arith, inl, inr}
use Rattle.std.specs.Prelude.{filter, ◌||◌}
use Rattle.std.specs.List.{AllByRecursion, list_any}
use Rattle.std.proofs.lemmas.Bool.{cases_eq, cases_lt, eq-eqb, ne_eqb}
use Rattle.std.proofs.lemmas.List.{get_or-set_same, get_or-set_other, get_or-replicate, length-set, take_all}
use Rattle.pw_image.specs.declared.image.Function.{Function}
use Rattle.pw_where.specs.Calls.{marked, entries_of, is_called, Tells}

or_true : (b : Bool) → (b || true) ≡ true
or_true true = refl
or_true false = refl

or_false : (b : Bool) → b ≡ (b || false)
or_false true = refl
or_false false = refl

-- one mark more
set_tells : (table : List Bool) (b a : ℕ) (rest : Bool) → b < length table → (get_or (set table b true) a false || rest) ≡ (get_or table a false || ((b == a) || rest))
set_tells table b a rest lt =
    elim (cases_eq b a) [
      | inl same ↦
          let here : get_or (set table b true) a false ≡ true = subst (λ (n : ℕ). get_or (set table b true) n false ≡ true) same (get_or-set_same table b true false lt) in
          rw (here, eq-eqb b a same) (sym (or_true (get_or table a false)))
      | inr apart ↦
          let other : a ≢ b = λ e. apart (sym e) in
          rw (get_or-set_other table b a true false other, ne_eqb b a apart) refl
    ]

longer : (xs : List ℕ) (n m : ℕ) → m ≡ n → AllByRecursion (λ a. a < n) xs → AllByRecursion (λ a. a < m) xs
longer xs n m e all = subst (λ (k : ℕ). AllByRecursion (λ a. a < k) xs) (sym e) all

marked_tells : (xs : List ℕ) (table : List Bool) (a : ℕ) → AllByRecursion (λ b. b < length table) xs → get_or (marked table xs) a false ≡ (get_or table a false || list_any (λ b. b == a) xs)
marked_tells [] table a within = or_false (get_or table a false)
marked_tells (b ∷ rest) table a within =
    marked_tells rest (set table b true) a (longer rest (length table) (length (set table b true)) (length-set table b true) within.1)
    ∙ set_tells table b a (list_any (λ c. c == a) rest) within.0

pub no_mark : (n a : ℕ) → get_or (replicate n false) a false ≡ false
no_mark n a =
    elim (cases_lt a n) [
      | inl lt ↦ get_or-replicate n a false false lt
      | inr ge ↦ beyond n a ge
    ]
  where
    beyond : (n a : ℕ) → n ≤ a → get_or (replicate n false) a false ≡ false
    beyond zero a le = refl
    beyond (suc n) zero le = absurd (omega (arith, le))
    beyond (suc n) (suc a) le = beyond n a (omega (arith, le))

-- a table of no marks, and these
pub tells_marked : (xs : List ℕ) (table : List Bool) → ((a : ℕ) → get_or table a false ≡ false) → AllByRecursion (λ b. b < length table) xs → Tells (marked table xs) xs
tells_marked xs table none within a =
    marked_tells xs table a within ∙ ap (λ (b : Bool). b || list_any (λ c. c == a) xs) (none a)

pub within_length : (xs : List ℕ) (n m : ℕ) → m ≡ n → AllByRecursion (λ a. a < n) xs → AllByRecursion (λ a. a < m) xs
within_length = longer

entry_if : (n : ℕ) (b : Bool) (f : Function) (fs : List Function) → f.address < n → AllByRecursion (λ a. a < n) (map (λ g. g.address) fs) → AllByRecursion (λ a. a < n) (map (λ g. g.address) (cond b (f ∷ fs) fs))
entry_if n true f fs lt all = (lt, all)
entry_if n false f fs lt all = all

-- functions begin where entries are
pub entries_within : (n : ℕ) (fs : List Function) → AllByRecursion (λ f. f.address < n) fs → AllByRecursion (λ a. a < n) (entries_of fs)
entries_within n [] all = tt
entries_within n (f ∷ fs) all = entry_if n (is_called f) f (filter is_called fs) all.0 (entries_within n fs all.1)

-- those of a list that are not behind so many
pub taken_within : {X : Type 0} (xs : List X) (n : ℕ) → take (length xs - (length xs - n)) xs ≡ take n xs
taken_within xs n =
    elim (cases_lt (length xs) n) [
      | inl few ↦
          let all : length xs - (length xs - n) ≡ length xs = omega (arith, few) in
          let le : length xs ≤ n = omega (arith, few) in
          ap (λ (k : ℕ). take k xs) all ∙ take_all (length xs) xs (omega arith) ∙ sym (take_all n xs le)
      | inr many ↦
          let some : length xs - (length xs - n) ≡ n = omega (arith, many) in
          ap (λ (k : ℕ). take k xs) some
    ]
