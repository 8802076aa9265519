-- Laws on sets, for the lattices and problems over them.
use Rattle.std.specs.Prelude.{◌≡◌, ℕ, zero, suc, ◌/◌, ◌%◌, ◌≤◌, ◌==◌, ◌⊎◌, ◌↔◌, Bool, true, false, List, ◌∷◌, if◌then◌else◌, length, slice_index}
use Rattle.std.specs.Int.{bit_at}
use Rattle.std.proofs.Common.{inl, inr, subst, arith}
use Rattle.pw_fix.specs.Order.{IsPreorder}
use Rattle.pw_fix.specs.Row.{Holds, IsSubset, member_count}
use Rattle.pw_fix.specs.declared.bit_row.BitRow.{BitRow}
use Rattle.pw_fix.specs.Words.{held}

-- inclusion is an order
pub subsets_order : (len : ℕ) → IsPreorder {E = BitRow} (λ row. row.len ≡ len) IsSubset
subsets_order len = record {
  reflexive = λ a _ i h. h;
  transitive = λ a b c _ _ _ f g i h. g i (f i h);
}

-- a set with one number more rises with the set
pub insert_monotone : (n : ℕ) (x y a b : BitRow) → IsSubset x y → ((k : ℕ) → Holds a k ↔ ((k ≡ n) ⊎ Holds x k)) → ((k : ℕ) → Holds b k ↔ ((k ≡ n) ⊎ Holds y k)) → IsSubset a b
insert_monotone n x y a b sub ha hb i h = (hb i).1 (elim ((ha i).0 h) [ inl same ↦ inl same | inr old ↦ inr (sub i old) ])

one_more : (b : Bool) (x k : ℕ) (xs : List ℕ) → length xs ≤ k → length (if b then (x ∷ xs) else xs) ≤ suc k
one_more true x k xs h = omega arith
one_more false x k xs h = omega arith

-- at most k of k numbers are held
held_fit : (words : List ℕ) (i k : ℕ) → length (held words i k) ≤ k
held_fit words i zero = omega arith
held_fit words i (suc k) = one_more (bit_at (slice_index words (i / 64)) (i % 64) == 1) i k (held words (suc i) k) (held_fit words (suc i) k)

-- a set of numbers below its length has at most that many
pub members_fit : (len : ℕ) (row : BitRow) → row.len ≡ len → member_count row ≤ len
members_fit len row e = subst (λ n. member_count row ≤ n) e (held_fit row.words.items 0 row.len)
