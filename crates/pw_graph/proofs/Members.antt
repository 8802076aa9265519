-- The list of a set's numbers.
use Rattle.std.proofs.Common.{◌≡◌, ◌⊎◌, ℕ, zero, suc, ◌+◌, ◌<◌, ◌≤◌, ◌/◌, ◌%◌, false, List, [], ◌∷◌, length, get_or, refl, sym, subst, arith, inl, inr, add-one}
use Rattle.std.specs.Prelude.{All, Contains, ◌↔◌}
use Rattle.std.specs.List.{AllByRecursion}
use Rattle.std.specs.List.Sorted.{IsStrictlyIncreasing}
use Rattle.std.proofs.lemmas.List.Elements.{All-from_recursion}
use Rattle.std.specs.Int.{bit_at}
use Rattle.std.proofs.Math.Dec.{eqb}
use Rattle.std.proofs.lemmas.Bool.{cases_lt, cases_eq, ne_eqb}
use Rattle.pw_fix.specs.Words.{HasBit, held}
use Rattle.pw_fix.specs.Row.{Holds, members, member_count, IsSubset}
use Rattle.pw_fix.specs.declared.bit_row.BitRow.{BitRow}
use Rattle.pw_fix.proofs.Bits.{held_cases}
use Rattle.pw_fix.proofs.Held.{held_some, length_held_le, length_held_lt}
use Rattle.pw_files.proofs.Standing.{Has, has_by, contains_by, each_by}

-- ---- numbers that rise

abbrev pub Ups : List ℕ → Type 0
Ups [] = Unit {0}
Ups (x ∷ xs) = AllByRecursion (λ y. x < y) xs × Ups xs

next_up : (xs : List ℕ) → Ups xs → (k : ℕ) → suc k < length xs → get_or xs k 0 < get_or xs (suc k) 0
next_up [] ups k lt = absurd (omega (arith, lt))
next_up (x ∷ []) ups k lt = absurd (omega (arith, lt))
next_up (x ∷ y ∷ ys) ups zero lt = ups.0.0
next_up (x ∷ y ∷ ys) ups (suc k) lt = next_up (y ∷ ys) ups.1 k (omega (arith, lt))

pub increasing : (xs : List ℕ) → Ups xs → IsStrictlyIncreasing xs
increasing xs ups k lt = rw add-one (next_up xs ups k (omega (arith, lt)))

-- ---- what a list of held numbers has

held_on : (ws : List ℕ) (n k : ℕ) → HasBit ws n → held ws n (suc k) ≡ n ∷ held ws (suc n) k
held_on ws n k h = held_some ws n (suc k) n k (omega arith) (omega arith) h (λ j a b. absurd (omega (arith, a, b)))

held_off : (ws : List ℕ) (n k : ℕ) → (HasBit ws n → ⊥) → held ws n (suc k) ≡ held ws (suc n) k
held_off ws n k h =
    let off : eqb (bit_at (get_or ws (n / 64) 0) (n % 64)) 1 ≡ false = ne_eqb (bit_at (get_or ws (n / 64) 0) (n % 64)) 1 h in
    rw off refl

record Within (ws : List ℕ) (i k x : ℕ) : Type 0 where
  from : i ≤ x
  to : x < i + k
  has : HasBit ws x

held_back : (ws : List ℕ) (i k x : ℕ) → Has x (held ws i k) → Within ws i k x
held_back ws i zero x h = absurd h
held_back ws i (suc k) x h = elim (held_cases ws i) [
  | inl on ↦ elim (subst (λ (ys : List ℕ). Has x ys) (held_on ws i k on) h) [
    | inl same ↦ record { from = omega (arith, same); to = omega (arith, same); has = subst (λ j. HasBit ws j) same on }
    | inr later ↦ let w = held_back ws (suc i) k x later in record { from = omega (arith, w.from); to = omega (arith, w.to); has = w.has }
  ]
  | inr off ↦ let w = held_back ws (suc i) k x (subst (λ (ys : List ℕ). Has x ys) (held_off ws i k off) h) in record { from = omega (arith, w.from); to = omega (arith, w.to); has = w.has }
]

held_has : (ws : List ℕ) (i k x : ℕ) → i ≤ x → x < i + k → HasBit ws x → Has x (held ws i k)
held_has ws i zero x from to h = absurd (omega (arith, from, to))
held_has ws i (suc k) x from to h = elim (cases_eq i x) [
  | inl same ↦ subst (λ (ys : List ℕ). Has x ys) (sym (held_on ws i k (subst (λ j. HasBit ws j) (sym same) h))) (inl same)
  | inr other ↦
      let rest = held_has ws (suc i) k x (omega (arith, from, other)) (omega (arith, to)) h in
      elim (held_cases ws i) [
        | inl on ↦ subst (λ (ys : List ℕ). Has x ys) (sym (held_on ws i k on)) (inr rest)
        | inr off ↦ subst (λ (ys : List ℕ). Has x ys) (sym (held_off ws i k off)) rest
      ]
]

held_ups : (ws : List ℕ) (i k : ℕ) → Ups (held ws i k)
held_ups ws i zero = tt
held_ups ws i (suc k) = elim (held_cases ws i) [
  | inl on ↦ subst Ups (sym (held_on ws i k on)) (each_by (λ y. i < y) (held ws (suc i) k) (λ y h. (held_back ws (suc i) k y h).from), held_ups ws (suc i) k)
  | inr off ↦ subst Ups (sym (held_off ws i k off)) (held_ups ws (suc i) k)
]

-- ---- of a row

pub members_ups : (row : BitRow) → Ups (members row)
members_ups row = held_ups row.words.items 0 row.len

pub members_rise : (row : BitRow) → IsStrictlyIncreasing (members row)
members_rise row = increasing (members row) (members_ups row)

not_past : (row : BitRow) (x : ℕ) → Holds row x → (x < row.len) ⊎ (row.len ≤ x) → x < row.len
not_past row x h (inl lt) = lt
not_past row x h (inr le) = absurd (row.unused x le h)

pub held_within : (row : BitRow) (x : ℕ) → Holds row x → x < row.len
held_within row x h = not_past row x h (cases_lt x row.len)

pub in_members : (row : BitRow) (x : ℕ) → Contains (members row) x ↔ Holds row x
in_members row x = (
  λ c. (held_back row.words.items 0 row.len x (has_by x (members row) c)).has,
  λ h. contains_by x (members row) (held_has row.words.items 0 row.len x (omega arith) (omega (arith, held_within row x h)) h),
)

pub more_members : (a b : BitRow) (x : ℕ) → a.len ≡ b.len → IsSubset a b → Holds b x → (Holds a x → ⊥) → member_count a < member_count b
more_members a b x same sub new old =
    subst (λ n. length (held a.words.items 0 n) < member_count b) (sym same)
    (length_held_lt a.words.items b.words.items 0 b.len x sub (omega arith) (omega (arith, held_within b x new)) new old)

pub no_fewer : (a b : BitRow) → a.len ≡ b.len → IsSubset a b → member_count a ≤ member_count b
no_fewer a b same sub =
    subst (λ n. length (held a.words.items 0 n) ≤ member_count b) (sym same) (length_held_le a.words.items b.words.items 0 b.len sub)

-- a list that is those of a row has what the row holds
pub row_of : (row : BitRow) (places : List ℕ) (calls : List ℕ) → places ≡ members row → ((b : ℕ) → Holds row b ↔ Contains calls b) → IsStrictlyIncreasing places × ((b : ℕ) → Contains places b ↔ Contains calls b)
row_of row places calls same holds = subst (λ (ps : List ℕ). IsStrictlyIncreasing ps × ((b : ℕ) → Contains ps b ↔ Contains calls b)) (sym same)
    (members_rise row, λ b. (λ c. (holds b).0 ((in_members row b).0 c), λ c. (in_members row b).1 ((holds b).1 c)))

-- they are below the length
pub members_below : (row : BitRow) (places : List ℕ) (n : ℕ) → row.len ≤ n → places ≡ members row → All (λ p. p < n) places
members_below row places n le same =
    subst (λ (ps : List ℕ). All (λ p. p < n) ps) (sym same) (All-from_recursion (λ p. p < n) (members row) (each_by (λ p. p < n) (members row)
    (λ p h. let lt : p < row.len = held_within row p ((in_members row p).0 (contains_by p (members row) h)) in omega (arith, lt, le))))
