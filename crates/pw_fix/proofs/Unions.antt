-- A least upper bound of two sets is their union, since the union is a set of that length too.
use Rattle.std.proofs.Common.{◌≡◌, ℕ, zero, suc, ◌≤◌, List, [], ◌∷◌, ◌++◌, length, sym, subst, ap, inl, inr, ◌⊎◌, ◌↔◌, get_or, ◌∙◌, refl, arith}
use Rattle.std.specs.Prelude.{bit_or}
use Rattle.std.specs.Int.{div_ceil}
use Rattle.smallvec.specs.SmallVec.{with_items}
use Rattle.smallvec.proofs.SmallVecLemmas.{items-with_items}
use Rattle.pw_fix.specs.Order.{IsJoin}
use Rattle.pw_fix.specs.Row.{Holds, IsSubset}
use Rattle.pw_fix.specs.Words.{HasBit}
use Rattle.pw_fix.specs.declared.bit_row.BitRow.{BitRow}
use Rattle.pw_fix.proofs.Bits.{union_bits}

-- word by word
abbrev or_words : List ℕ → List ℕ → List ℕ
or_words [] ys = []
or_words (x ∷ xs) [] = x ∷ xs
or_words (x ∷ xs) (y ∷ ys) = bit_or x y ∷ or_words xs ys

length-or_words : (xs ys : List ℕ) → length (or_words xs ys) ≡ length xs
length-or_words [] ys = refl
length-or_words (x ∷ xs) [] = refl
length-or_words (x ∷ xs) (y ∷ ys) = ap suc (length-or_words xs ys)

get_or-or_words : (xs ys : List ℕ) (k : ℕ) → length xs ≡ length ys → get_or (or_words xs ys) k 0 ≡ bit_or (get_or xs k 0) (get_or ys k 0)
get_or-or_words [] [] k e = refl
get_or-or_words [] (y ∷ ys) k e = absurd (omega arith)
get_or-or_words (x ∷ xs) [] k e = absurd (omega arith)
get_or-or_words (x ∷ xs) (y ∷ ys) zero e = refl
get_or-or_words (x ∷ xs) (y ∷ ys) (suc k) e = get_or-or_words xs ys k (omega arith)

module _ (x y : BitRow) (same : y.len ≡ x.len) where
  abbrev words : List ℕ
  words = or_words x.words.items y.words.items

  written : (with_items x.words words).items ≡ words
  written = items-with_items x.words words (length-or_words x.words.items y.words.items)

  both_long : length x.words.items ≡ length y.words.items
  both_long = x.enough ∙ ap (λ n. div_ceil n 64) (sym same) ∙ sym y.enough

  either : (i : ℕ) → HasBit words i ↔ (Holds x i ⊎ Holds y i)
  either = union_bits x.words.items y.words.items words (λ k. get_or-or_words x.words.items y.words.items k both_long)

  none_past : (i : ℕ) → x.len ≤ i → HasBit words i → ⊥
  none_past i h b = elim ((either i).0 b) [
    | inl k ↦ x.unused i h k
    | inr k ↦ y.unused i (subst (λ n. n ≤ i) (sym same) h) k
  ]

  abbrev union_row : BitRow
  union_row = record {
    len = x.len;
    words = with_items x.words words;
    enough = ap length written ∙ length-or_words x.words.items y.words.items ∙ x.enough;
    unused = λ i h b. none_past i h (subst (λ ws. HasBit ws i) written b);
  }

  union_holds : (i : ℕ) → Holds union_row i ↔ (Holds x i ⊎ Holds y i)
  union_holds i = subst (λ ws. HasBit ws i ↔ (Holds x i ⊎ Holds y i)) (sym written) (either i)

pub join_is_union : (len : ℕ) (x y z : BitRow) → x.len ≡ len → y.len ≡ len → IsJoin {E = BitRow} (λ row. row.len ≡ len) IsSubset x y z → (i : ℕ) → Holds z i ↔ (Holds x i ⊎ Holds y i)
join_is_union len x y z ex ey j i =
    let same : y.len ≡ x.len = ey ∙ sym ex in (
      (λ h. (union_holds x y same i).0 (j.least (union_row x y same) ex (λ k b. (union_holds x y same k).1 (inl b)) (λ k b. (union_holds x y same k).1 (inr b)) i h)),
      elim [ inl b ↦ j.above_first i b | inr b ↦ j.above_second i b ],
    )
