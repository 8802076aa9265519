-- The greatest need of a root's members, function by function.
use Rattle.std.specs.Prelude.{ℕ, zero, suc, ◌≡◌, ◌<◌, ◌≤◌, ◌+◌, ◌==◌, ◌&&◌, not, max, if◌then◌else◌, List, [], ◌∷◌, ◌++◌, length, slice_index, replicate}
use Rattle.std.proofs.Common.{arith, refl, sym, ap, subst, ◌∙◌, take, get_or}
use Rattle.std.proofs.lemmas.List.{length-take-le}
use Rattle.pw_webs.proofs.WalkLaws.{next_item}
use Rattle.pw_clusters.specs.Saving.{greatest_need}

-- what a function adds
abbrev pub adds : ℕ → ℕ → ℕ → ℕ → ℕ
adds r f root n = if (root == r) && not (f == r) then n else 0

max_of_three : (a b c : ℕ) → max a (max b c) ≡ max b (max a c)
max_of_three a b c = omega arith

-- one more at the end
pub one_more : (r f : ℕ) (roots needs : List ℕ) (root n : ℕ) → length needs ≡ length roots → greatest_need r f (roots ++ root ∷ []) (needs ++ n ∷ []) ≡ max (adds r (f + length roots) root n) (greatest_need r f roots needs)
one_more r f [] [] root n same = ap (λ (k : ℕ). max (adds r k root n) 0) (omega arith)
one_more r f [] (m ∷ needs) root n same = absurd (omega (arith, same))
one_more r f (q ∷ roots) [] root n same = absurd (omega (arith, same))
one_more r f (q ∷ roots) (m ∷ needs) root n same =
    let later : greatest_need r (suc f) (roots ++ root ∷ []) (needs ++ n ∷ []) ≡ max (adds r (f + length (q ∷ roots)) root n) (greatest_need r (suc f) roots needs) =
    subst (λ (k : ℕ). greatest_need r (suc f) (roots ++ root ∷ []) (needs ++ n ∷ []) ≡ max (adds r k root n) (greatest_need r (suc f) roots needs)) (omega arith) (one_more r (suc f) roots needs root n (omega (arith, same))) in
    ap (max (adds r f q m)) later ∙ max_of_three (adds r f q m) (adds r (f + length (q ∷ roots)) root n) (greatest_need r (suc f) roots needs)

-- place by place
pub next_needs : (roots needs : List ℕ) (i root n r : ℕ) → length needs ≡ length roots → i < length roots → root ≡ get_or roots i root → n ≡ get_or needs i n
    → greatest_need r 0 (take (i + 1) roots) (take (i + 1) needs) ≡ max (adds r i root n) (greatest_need r 0 (take i roots) (take i needs))
next_needs roots needs i root n r same lt at_root at_need =
    let long : length (take i roots) ≡ i = length-take-le i roots (omega (arith, lt)) in
    let place : 0 + length (take i roots) ≡ i = omega (arith, long) in
    let as_long : length (take i needs) ≡ i = length-take-le i needs (omega (arith, lt, same)) in
    ap (λ (xs : List ℕ). greatest_need r 0 xs (take (i + 1) needs)) (next_item roots i root lt at_root)
    ∙ ap (λ (xs : List ℕ). greatest_need r 0 (take i roots ++ root ∷ []) xs) (next_item needs i n (omega (arith, lt, same)) at_need)
    ∙ one_more r 0 (take i roots) (take i needs) root n (as_long ∙ sym long)
    ∙ ap (λ (k : ℕ). max (adds r k root n) (greatest_need r 0 (take i roots) (take i needs))) place
