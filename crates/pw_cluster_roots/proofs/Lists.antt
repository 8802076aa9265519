-- What holds of the first elements of a list, one by one.
use Rattle.std.specs.Prelude.{ℕ, zero, suc, ◌≡◌, ◌<◌, ◌≤◌, ◌+◌, List, [], ◌∷◌, ◌++◌, length, slice_index_or, Contains}
use Rattle.std.specs.List.{range_with_len}
use Rattle.std.proofs.Common.{arith, sym, ap, subst, ◌∙◌, take, get_or, inl, inr}
use Rattle.std.proofs.Math.Seq.{take-append_seam}
use Rattle.std.proofs.lemmas.List.Elements.{Contains-push_cases, Contains-get_or}
use Rattle.std.proofs.lemmas.List.{take_all}
use Rattle.pw_webs.proofs.WalkLaws.{next_item}

pub all_first : (P : ℕ → Type 0) (b : ℕ) → Contains [] b → P b
all_first P b c = let lt = c.1 in absurd (omega (arith, lt))

pub all_more : (P : ℕ → Type 0) (row : List ℕ) (i p : ℕ) → i < length row → p ≡ get_or row i p → P p → ((b : ℕ) → Contains (take i row) b → P b) → (b : ℕ) → Contains (take (i + 1) row) b → P b
all_more P row i p lt at has before b c = elim (Contains-push_cases (take i row) p b (subst (λ (ys : List ℕ). Contains ys b) (next_item row i p lt at) c)) [
  | inl k ↦ before b k
  | inr e ↦ subst P e has
]

pub all_end : (P : ℕ → Type 0) (row : List ℕ) (i : ℕ) → length row ≤ i → ((b : ℕ) → Contains (take i row) b → P b) → (b : ℕ) → Contains row b → P b
all_end P row i le before = subst (λ (ys : List ℕ). (b : ℕ) → Contains ys b → P b) (take_all i row le) before

-- a list that was written back over one as long
pub written_back : (n : ℕ) (new rest : List ℕ) → n ≡ length new → take n (new ++ rest) ≡ new
written_back n new rest e = ap (λ (k : ℕ). take k (new ++ rest)) e ∙ take-append_seam new rest

-- numbers one behind the other
range_last : (a n : ℕ) → range_with_len a (suc n) ≡ range_with_len a n ++ (a + n) ∷ []
range_last a zero = let z : a ≡ a + zero = omega arith in ap (λ (k : ℕ). k ∷ []) z
range_last a (suc n) =
    let same : (a + 1) + n ≡ a + suc n = omega arith in
    ap (λ (xs : List ℕ). a ∷ xs) (range_last (a + 1) n ∙ ap (λ (k : ℕ). range_with_len (a + 1) n ++ k ∷ []) same)

pub range_more : (a n : ℕ) → range_with_len a n ++ (a + n) ∷ [] ≡ range_with_len a (n + 1)
range_more a n = let up : suc n ≡ n + 1 = omega arith in sym (range_last a n) ∙ ap (range_with_len a) up

-- the functions of a row are some of the graph's
pub row_below : (row : List ℕ) (n : ℕ) → ((c : ℕ) → Contains row c → c < n) → (k d : ℕ) → k < length row → slice_index_or row k d < n
row_below row n each k d lt = each (get_or row k d) (Contains-get_or row k d lt)
