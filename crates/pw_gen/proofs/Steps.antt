-- A range that grows by one, and draws behind others.
use Rattle.std.proofs.Common.{◌≡◌, ℕ, zero, suc, ◌+◌, ◌*◌, ◌%◌, ◌^◌, List, [], ◌∷◌, ◌++◌, refl, ap, ◌∙◌, arith}
use Rattle.std.specs.List.{flat_map, range_with_len}
use Rattle.std.proofs.lemmas.Grind.{flat_map-append}
use Rattle.std.proofs.lemmas.List.{append-nil}
use Rattle.pw_gen.specs.Generator.{after, draws_before, functions_of_a_module, member, members}

range_more : (a n : ℕ) → range_with_len a (n + 1) ≡ range_with_len a n ++ (a + n) ∷ []
range_more a zero = let same : a ≡ a + 0 = omega arith in ap (λ (x : ℕ). x ∷ []) same
range_more a (suc n) =
    let more : suc n + 1 ≡ suc (n + 1) = omega arith in
    let same : (a + 1) + n ≡ a + suc n = omega arith in
    ap (range_with_len a) more
    ∙ ap (λ (xs : List ℕ). a ∷ xs) (range_more (a + 1) n ∙ ap (λ (x : ℕ). range_with_len (a + 1) n ++ x ∷ []) same)

pub flat_range_more : (f : ℕ → List ℕ) (n : ℕ) → flat_map f (range_with_len 0 (n + 1)) ≡ flat_map f (range_with_len 0 n) ++ f n
flat_range_more f n =
    let same : 0 + n ≡ n = omega arith in
    ap (flat_map f) (range_more 0 n) ∙ flat_map-append f (range_with_len 0 n) ((0 + n) ∷ [])
    ∙ ap (λ (x : ℕ). flat_map f (range_with_len 0 n) ++ (f x ++ [])) same
    ∙ ap (λ (xs : List ℕ). flat_map f (range_with_len 0 n) ++ xs) (append-nil (f n))

after_more : (a b number : ℕ) → after a (after b number) ≡ after (b + a) number
unfolding after
after_more zero b number = let same : b ≡ b + 0 = omega arith in ap (λ (k : ℕ). after k number) same
after_more (suc a) b number =
    let more : suc (b + a) ≡ b + suc a = omega arith in
    ap (λ (x : ℕ). (1664525 * x + 1013904223) % 2 ^ 32) (after_more a b number) ∙ ap (λ (k : ℕ). after k number) more

pub no_members : (count k number : ℕ) → members count k 0 number ≡ []
unfolding members
no_members count k number = refl

pub one_member_more : (count k j number : ℕ) → members count k (j + 1) number ≡ members count k j number ++ member count k j (after (3 * j) number)
unfolding members
one_member_more count k j number = flat_range_more (λ i. member count k i (after (3 * i) number)) j

pub nothing_drawn : (number : ℕ) → number ≡ after (3 * 0) number
unfolding after
nothing_drawn number = refl

pub three_more : (j number : ℕ) → after 3 (after (3 * j) number) ≡ after (3 * (j + 1)) number
three_more j number = let same : 3 * j + 3 ≡ 3 * (j + 1) = omega arith in after_more 3 (3 * j) number ∙ ap (λ (k : ℕ). after k number) same

pub module_more : (k number : ℕ) → after (3 * functions_of_a_module) (after (draws_before k) number) ≡ after (draws_before (k + 1)) number
module_more k number =
    let same : draws_before k + 3 * functions_of_a_module ≡ draws_before (k + 1) = omega arith in
    after_more (3 * functions_of_a_module) (draws_before k) number ∙ ap (λ (n : ℕ). after n number) same

pub nothing_before : (number : ℕ) → number ≡ after (draws_before 0) number
unfolding after
nothing_before number = refl
