-- Sums over labels, and the blocks that labels are given.
use Rattle.std.proofs.Common.{◌≡◌, Contains, inl, inr, ℕ, zero, suc, ◌+◌, ◌<◌, ◌≤◌, ◌==◌, Bool, true, false, ◌||◌, nat_eq, true≢false, if◌then◌else◌, List, [], ◌∷◌, ◌++◌, length, slice_get, refl, ap, sym, ◌∙◌, arith, eqb-true, eq-eqb}
use Rattle.std.specs.Prelude.{slice_set, unwrap_or}
use Rattle.std.specs.List.{AllByRecursion, IsDistinct}
use Rattle.std.proofs.lemmas.Bool.{or_cases, or_left, or_right}
use Rattle.std.proofs.lemmas.List.Elements.{All-nil, All-cons, All-contains, Contains-append_right, Contains-append_cases}
use Rattle.std.proofs.lemmas.List.{get_or-set_same, get_or-set_other}
use Rattle.std.proofs.lemmas.List.Folds.{list_any-append}
use Rattle.std.proofs.lemmas.Map.Keys.{IsDistinct-head, IsDistinct-tail}
use Rattle.std.proofs.lemmas.Option.{unwrap_or-slice_get}
use Rattle.pw_lower.specs.Codes.{numbered}
use Rattle.pw_cmean.specs.Execution.{holds}
use Rattle.pw_law_refine_steps.specs.FromLawRefine.Containing.{same, given}
use Rattle.pw_law_refine_code.proofs.Spreads.{given-more}

-- ---- sums

abbrev pub total : (ℕ → ℕ) → List ℕ → ℕ
total w [] = 0
total w (l ∷ rest) = w l + total w rest

pub total-append : (w : ℕ → ℕ) (xs ys : List ℕ) → total w (xs ++ ys) ≡ total w xs + total w ys
total-append w [] ys = omega arith
total-append w (x ∷ xs) ys = omega (arith, total-append w xs ys)

pub total-within : (v w : ℕ → ℕ) (xs : List ℕ) → AllByRecursion (λ x. v x ≤ w x) xs → total v xs ≤ total w xs
total-within v w [] h = omega arith
total-within v w (x ∷ xs) h = omega (arith, h.0, total-within v w xs h.1)

-- a weight of one label, and of the labels in a list
abbrev pub of_one : ℕ → (ℕ → ℕ) → ℕ → ℕ
of_one y w x = if x == y then w x else 0

abbrev pub of_list : List ℕ → (ℕ → ℕ) → ℕ → ℕ
of_list ys w x = if holds ys x then w x else 0

-- no label is another
total-none : (w : ℕ → ℕ) (y : ℕ) (xs : List ℕ) → AllByRecursion (λ z. nat_eq y z ≡ false) xs → total (of_one y w) xs ≡ 0
total-none w y [] h = refl
total-none w y (x ∷ xs) h = by_test (x == y) refl (total-none w y xs h.1)
  where
    turned : (a b : ℕ) → (a == b) ≡ true → nat_eq b a ≡ true
    turned a b e = eq-eqb b a (sym (eqb-true a b e))

    by_test : (v : Bool) → (x == y) ≡ v → total (of_one y w) xs ≡ 0 → (if v then w x else 0) + total (of_one y w) xs ≡ 0
    by_test true e others = absurd (true≢false (sym (turned x y e) ∙ h.0))
    by_test false e others = omega (arith, others)

-- a label stands once in labels that differ
pub total-once : (w : ℕ → ℕ) (y : ℕ) (xs : List ℕ) → IsDistinct nat_eq xs → total (of_one y w) xs ≤ w y
total-once w y [] h = omega arith
total-once w y (x ∷ xs) h = by_test (x == y) refl (total-once w y xs (IsDistinct-tail nat_eq x xs h))
  where
    by_test : (v : Bool) → (x == y) ≡ v → total (of_one y w) xs ≤ w y → (if v then w x else 0) + total (of_one y w) xs ≤ w y
    by_test true e rest =
        let is : x ≡ y = eqb-true x y e in
        let none : total (of_one x w) xs ≡ 0 = total-none w x xs (IsDistinct-head nat_eq x xs h) in
        let others : total (of_one y w) xs ≡ 0 = sym (ap (λ (z : ℕ). total (of_one z w) xs) is) ∙ none in
        omega (arith, others, ap w is)
    by_test false e rest = omega (arith, rest)

total-either : (w : ℕ → ℕ) (y : ℕ) (ys xs : List ℕ) → total (of_list (y ∷ ys) w) xs ≤ total (of_one y w) xs + total (of_list ys w) xs
total-either w y ys [] = omega arith
total-either w y ys (x ∷ xs) = omega (arith, first (y == x) (x == y) (holds ys x) (w x) (turned y x), total-either w y ys xs)
  where
    turned : (a b : ℕ) → (a == b) ≡ (b == a)
    turned a b = grind arith

    first : (p q r : Bool) (n : ℕ) → p ≡ q → (if p || r then n else 0) ≤ (if q then n else 0) + (if r then n else 0)
    first true true r n e = omega arith
    first false false true n e = omega arith
    first false false false n e = omega arith
    first true false r n e = absurd (true≢false e)
    first false true r n e = absurd (true≢false (sym e))

total-nothing : (w : ℕ → ℕ) (xs : List ℕ) → total (of_list [] w) xs ≡ 0
total-nothing w [] = refl
total-nothing w (x ∷ xs) = omega (arith, total-nothing w xs)

-- labels that differ, as far as they are in a list
pub total-among : (w : ℕ → ℕ) (ys xs : List ℕ) → IsDistinct nat_eq xs → total (of_list ys w) xs ≤ total w ys
total-among w [] xs h = omega (arith, total-nothing w xs)
total-among w (y ∷ ys) xs h = omega (arith, total-either w y ys xs, total-once w y xs h, total-among w ys xs h)

-- ---- lists of labels

pub holds-append : (xs ys : List ℕ) (l : ℕ) → holds (xs ++ ys) l ≡ (holds xs l || holds ys l)
holds-append xs ys l = list_any-append (λ other. other == l) xs ys

pub holds-contained : (xs : List ℕ) (l : ℕ) → Contains xs l → holds xs l ≡ true
holds-contained [] l h = absurd (omega (arith, h.1))
holds-contained (x ∷ xs) l h =
    elim (Contains-append_cases (x ∷ []) xs l h) [
      | inl here ↦ or_left (x == l) (holds xs l) (same_as here)
      | inr later ↦ or_right (x == l) (holds xs l) (holds-contained xs l later)
    ]
  where
    same_as : Contains (x ∷ []) l → (x == l) ≡ true
    same_as w = eq-eqb x l (All-contains (λ z. x ≡ z) (x ∷ []) l (All-cons (λ z. x ≡ z) x [] refl (All-nil (λ z. x ≡ z))) w)

pub contained-held : (xs : List ℕ) (l : ℕ) → holds xs l ≡ true → Contains xs l
contained-held [] l e = absurd (true≢false (sym e))
contained-held (x ∷ xs) l e =
    elim (or_cases (x == l) (holds xs l) e) [
      | inl here ↦ (0, omega arith, eqb-true x l here)
      | inr later ↦ Contains-append_right (x ∷ []) xs l (contained-held xs l later)
    ]

-- ---- the blocks of labels

abbrev pub look : List ℕ → ℕ → ℕ
look blocks l = unwrap_or (slice_get blocks l) 0

pub look-same : (blocks : List ℕ) (l n : ℕ) → l < length blocks → look (slice_set blocks l n) l ≡ n
look-same blocks l n h = unwrap_or-slice_get (slice_set blocks l n) l 0 ∙ get_or-set_same blocks l n 0 h

look-other : (blocks : List ℕ) (l k n : ℕ) → (l == k) ≡ false → look (slice_set blocks l n) k ≡ look blocks k
look-other blocks l k n h =
    unwrap_or-slice_get (slice_set blocks l n) k 0 ∙ get_or-set_other blocks l k n 0 (λ e. differ e) ∙ sym (unwrap_or-slice_get blocks k 0)
  where
    differ : k ≡ l → ⊥
    differ e = let is : (l == k) ≡ true = grind (arith, e) in true≢false (sym is ∙ h)

pub set-length : (blocks : List ℕ) (l n : ℕ) → length (slice_set blocks l n) ≡ length blocks
set-length [] l n = refl
set-length (b ∷ blocks) zero n = refl
set-length (b ∷ blocks) (suc l) n = ap suc (set-length blocks l n)

pub numbered-length : (n : ℕ) (own blocks : List ℕ) → length (numbered n own blocks) ≡ length blocks
numbered-length n [] blocks = refl
numbered-length n (l ∷ own) blocks = numbered-length (n + 1) own (slice_set blocks l n) ∙ set-length blocks l n

or-false : (p q : Bool) → (p || q) ≡ false → (p ≡ false) × (q ≡ false)
or-false true q e = absurd (true≢false e)
or-false false q e = (refl, e)

-- other labels keep theirs
pub numbered-other : (n : ℕ) (own blocks : List ℕ) (k : ℕ) → holds own k ≡ false → look (numbered n own blocks) k ≡ look blocks k
numbered-other n [] blocks k h = refl
numbered-other n (l ∷ own) blocks k h =
    let none = or-false (l == k) (holds own k) h in
    numbered-other (n + 1) own (slice_set blocks l n) k none.1 ∙ look-other blocks l k n none.0

not-held : (l : ℕ) (own : List ℕ) → AllByRecursion (λ z. nat_eq l z ≡ false) own → holds own l ≡ false
not-held l [] h = refl
not-held l (k ∷ own) h = let other : (k == l) ≡ false = turned k l h.0 in rw other (not-held l own h.1)
  where
    turned : (a b : ℕ) → nat_eq b a ≡ false → (a == b) ≡ false
    turned a b e = grind (arith, e)

-- the blocks of labels that differ are numbers from one on, each once
pub numbered-total :
    (b n : ℕ) (own blocks : List ℕ) → IsDistinct nat_eq own → AllByRecursion (λ l. l < length blocks) own
    → given b n + total (λ l. same (look (numbered n own blocks) l) b) own ≤ given b (n + length own)
numbered-total b n [] blocks d h = let none : n + 0 ≡ n = omega arith in omega (arith, ap (λ (m : ℕ). given b m) none)
numbered-total b n (l ∷ own) blocks d h =
    let is : look (numbered (n + 1) own (slice_set blocks l n)) l ≡ n
    = numbered-other (n + 1) own (slice_set blocks l n) l (not-held l own (IsDistinct-head nat_eq l own d)) ∙ look-same blocks l n h.0 in
    let first : same (look (numbered n (l ∷ own) blocks) l) b ≡ same n b = ap (λ (m : ℕ). same m b) is in
    let rest : given b (n + 1) + total (λ k. same (look (numbered n (l ∷ own) blocks) k) b) own ≤ given b ((n + 1) + length own) =
    numbered-total b (n + 1) own (slice_set blocks l n) (IsDistinct-tail nat_eq l own d) (kept own h.1) in
    let sum : (n + 1) + length own ≡ n + length (l ∷ own) = omega arith in
    omega (arith, first, given-more b n, rest, ap (λ (m : ℕ). given b m) sum)
  where
    kept : (ks : List ℕ) → AllByRecursion (λ k. k < length blocks) ks → AllByRecursion (λ k. k < length (slice_set blocks l n)) ks
    kept [] g = tt
    kept (k ∷ ks) g = (omega (arith, g.0, set-length blocks l n), kept ks g.1)

-- the block of one of several labels that are numbered is among those numbers
pub record IsAmong (n count b : ℕ) : Type 0 where
  pub from : n ≤ b
  pub below : b < n + count

pub numbered-among :
    (n : ℕ) (own blocks : List ℕ) (k : ℕ) → AllByRecursion (λ l. l < length blocks) own → holds own k ≡ true
    → IsAmong n (length own) (look (numbered n own blocks) k)
numbered-among n [] blocks k h e = absurd (true≢false (sym e))
numbered-among n (l ∷ own) blocks k h e =
    by_rest (holds own k) refl (numbered-among (n + 1) own (slice_set blocks l n) k (kept own h.1))
  where
    kept : (ks : List ℕ) → AllByRecursion (λ k. k < length blocks) ks → AllByRecursion (λ k. k < length (slice_set blocks l n)) ks
    kept [] g = tt
    kept (j ∷ ks) g = (omega (arith, g.0, set-length blocks l n), kept ks g.1)

    by_rest :
        (v : Bool) → holds own k ≡ v → (holds own k ≡ true → IsAmong (n + 1) (length own) (look (numbered (n + 1) own (slice_set blocks l n)) k))
        → IsAmong n (suc (length own)) (look (numbered (n + 1) own (slice_set blocks l n)) k)
    by_rest true there later = let r = later there in record { from = omega (arith, r.from); below = omega (arith, r.below) }
    by_rest false there later =
        let here : l ≡ k = eqb-true l k (by_first (l == k) (sym (ap (λ (v : Bool). (l == k) || v) there) ∙ e)) in
        let is : look (numbered (n + 1) own (slice_set blocks l n)) k ≡ n =
        numbered-other (n + 1) own (slice_set blocks l n) k there ∙ ap (λ (j : ℕ). look (slice_set blocks l n) j) (sym here) ∙ look-same blocks l n h.0 in
        record { from = omega (arith, is); below = omega (arith, is) }
      where
        by_first : (p : Bool) → (p || false) ≡ true → p ≡ true
        by_first true e = refl
        by_first false e = e
