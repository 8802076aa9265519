-- Each set of numbers below a bound that can be told is a row of bits.
use Rattle.std.proofs.Common.{replicate, ◌≡◌, ◌⊎◌, ℕ, zero, suc, ◌*◌, ◌/◌, ◌%◌, ◌^◌, ◌<◌, ◌≤◌, List, length, refl, sym, ap, subst, ◌∙◌, arith, inl, inr, get_or, set}
use Rattle.std.proofs.Math.ListN.{length-replicate, get_or-replicate, length-set}
use Rattle.std.specs.Prelude.{◌↔◌, bit_or}
use Rattle.std.specs.Int.{bit_at, div_ceil}
use Rattle.smallvec.specs.SmallVec.{SmallVec}
use Rattle.std.proofs.lemmas.Bool.{cases_eq, cases_lt}
use Rattle.std.proofs.lemmas.List.{get_or_past}
use Rattle.std.proofs.lemmas.Nat.Bits.{bit_at-zero}
use Rattle.pw_fix.specs.Words.{HasBit}
use Rattle.pw_fix.specs.Row.{Holds}
use Rattle.pw_fix.specs.declared.bit_row.BitRow.{BitRow}
use Rattle.pw_fix.proofs.Bits.{set_bit, place_within}
use Rattle.pw_law_answers.proofs.Telling.{Told}

-- ---- words

words_of : List ℕ → SmallVec ℕ
words_of items = record { items = items; capacity = length items }

words_are : (items : List ℕ) → (words_of items).items ≡ items
unfolding words_of
words_are items = refl

-- ---- rows

-- a row of this length that holds exactly what is so
pub record RowOf (n : ℕ) (P : ℕ → Type 0) : Type 0 where
  pub row : BitRow
  pub long : row.len ≡ n
  pub holds : (k : ℕ) → Holds row k ↔ P k

abbrev zeros : ℕ → List ℕ
zeros m = replicate m 0

no_bit : (m k : ℕ) → HasBit (zeros m) k → ⊥
no_bit m k h =
    let off : get_or (zeros m) (k / 64) 0 ≡ 0 = elim (cases_lt (k / 64) m) [
      | inl lt ↦ get_or-replicate m (k / 64) 0 0 lt
      | inr le ↦ get_or_past (zeros m) (k / 64) 0 (let long : length (zeros m) ≡ m = length-replicate m 0 in omega (arith, le, long))
    ] in
    let on : bit_at 0 (k % 64) ≡ 1 = subst (λ w. bit_at w (k % 64) ≡ 1) off h in
    let none : bit_at 0 (k % 64) ≡ 0 = bit_at-zero (k % 64) in
    omega (arith, on, none)

none_in_row : (n : ℕ) (P : ℕ → Type 0) → ((k : ℕ) → P k → ⊥) → RowOf n P
none_in_row n P none =
    let items = zeros (div_ceil n 64) in
    let long : length items ≡ div_ceil n 64 = length-replicate (div_ceil n 64) 0 in
    let words = words_of items in
    let are : ◌≡◌ {A = List ℕ} words.items items = words_are items in
    let empty : (k : ℕ) → HasBit words.items k → ⊥ = λ k h. no_bit (div_ceil n 64) k (subst (λ (ws : List ℕ). HasBit ws k) are h) in
    record {
      row = record { len = n; words = words; enough = ap length are ∙ long; unused = λ i le. empty i };
      long = refl;
      holds = λ k. (λ h. absurd (empty k h), λ p. absurd (none k p));
    }

one_more_in_row : (n : ℕ) (P Q : ℕ → Type 0) (i : ℕ) → i < n → ((k : ℕ) → Q k ↔ ((k ≡ i) ⊎ P k)) → RowOf n P → RowOf n Q
one_more_in_row n P Q i lt more old =
    let ws = old.row.words.items in
    let w = bit_or (get_or ws (i / 64) 0) (1 * 2 ^ (i % 64) % 2 ^ 64) in
    let items = set ws (i / 64) w in
    let within : i < old.row.len = let long = old.long in omega (arith, lt, long) in
    let there : i / 64 < length ws = place_within old.row.len i (length ws) old.row.enough within in
    let same : length items ≡ length ws = length-set ws (i / 64) w in
    let enough : length items ≡ div_ceil old.row.len 64 = same ∙ old.row.enough in
    let words = words_of items in
    let are : ◌≡◌ {A = List ℕ} words.items items = words_are items in
    let bits : (k : ℕ) → HasBit words.items k ↔ ((k ≡ i) ⊎ HasBit ws k) = λ k. subst (λ (xs : List ℕ). HasBit xs k ↔ ((k ≡ i) ⊎ HasBit ws k)) (sym are) (set_bit ws i k there) in
    record {
      row = record { len = old.row.len; words = words; enough = ap length are ∙ enough; unused = λ k le h. elim ((bits k).0 h) [ inl e ↦ omega (arith, le, e, within) | inr b ↦ old.row.unused k le b ] };
      long = old.long;
      holds = λ k. (
        λ h. (more k).1 (elim ((bits k).0 h) [ inl e ↦ inl e | inr b ↦ inr ((old.holds k).0 b) ]),
        λ q. (bits k).1 (elim ((more k).0 q) [ inl e ↦ inl e | inr p ↦ inr ((old.holds k).1 p) ]),
      );
    }

same_in_row : (n : ℕ) (P Q : ℕ → Type 0) → ((k : ℕ) → Q k ↔ P k) → RowOf n P → RowOf n Q
same_in_row n P Q same old = record { row = old.row; long = old.long; holds = λ k. (λ h. (same k).1 ((old.holds k).0 h), λ q. (old.holds k).1 ((same k).0 q)) }

module _ (n : ℕ) (P : ℕ → Type 0) (tell : (k : ℕ) → Told (P k)) where
  row_up_to : (m : ℕ) → m ≤ n → RowOf n (λ k. (k < m) × P k)
  row_up_to zero le = none_in_row n (λ k. (k < 0) × P k) (λ k p. let lt = p.0 in omega (arith, lt))
  row_up_to (suc m) le = by (tell m) (row_up_to m (omega (arith, le)))
    where
      by : Told (P m) → RowOf n (λ k. (k < m) × P k) → RowOf n (λ k. (k < suc m) × P k)
      by (inl p) old = one_more_in_row n (λ k. (k < m) × P k) (λ k. (k < suc m) × P k) m (omega (arith, le)) (λ k. (
        λ q. elim (cases_eq k m) [ inl e ↦ inl e | inr other ↦ inr ((let lt = q.0 in omega (arith, lt, other)), q.1) ],
        λ q. elim q [ inl e ↦ (omega (arith, e), subst P (sym e) p) | inr r ↦ ((let lt = r.0 in omega (arith, lt)), r.1) ],
      )) old
      by (inr lacks) old = same_in_row n (λ k. (k < m) × P k) (λ k. (k < suc m) × P k) (λ k. (
        λ q. elim (cases_eq k m) [ inl e ↦ absurd (lacks (subst P e q.1)) | inr other ↦ ((let lt = q.0 in omega (arith, lt, other)), q.1) ],
        λ r. ((let lt = r.0 in omega (arith, lt)), r.1),
      )) old

  -- what can be told, and is so of numbers below n alone
  pub row_of : ((k : ℕ) → P k → k < n) → RowOf n P
  row_of within = same_in_row n (λ k. (k < n) × P k) P (λ k. (λ p. (within k p, p), λ q. q.1)) (row_up_to n (omega arith))
