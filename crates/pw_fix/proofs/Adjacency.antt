-- The lists of successors after one edge more.
use Rattle.std.proofs.Common.{◌≡◌, ℕ, ◌+◌, ◌<◌, List, [], ◌∷◌, ◌++◌, length, Some, sym, subst, ap, inl, inr, ◌⊎◌, ◌↔◌, get_or, set, take}
use Rattle.std.specs.Prelude.{slice_get, Contains}
use Rattle.smallvec.specs.SmallVec.{SmallVec}
use Rattle.std.proofs.lemmas.List.{take_more}
use Rattle.std.proofs.lemmas.List.Elements.{Contains-push_cases, Contains-push, Contains-append_left}
use Rattle.pw_fix.specs.Solution.{HasEdge}
use Rattle.pw_fix.proofs.Places.{set_cases}

-- one element more of a front: an element of the front before, or the one that came
pub front_cases : {E : Type 0} (xs : List E) (i : ℕ) (d x : E) → i < length xs → Contains (take (i + 1) xs) x → Contains (take i xs) x ⊎ (get_or xs i d ≡ x)
front_cases xs i d x h k = Contains-push_cases (take i xs) (get_or xs i d) x (subst (λ ys. Contains ys x) (take_more xs i d h) k)

pub front_kept : {E : Type 0} (xs : List E) (i : ℕ) (d x : E) → i < length xs → Contains (take i xs) x → Contains (take (i + 1) xs) x
front_kept xs i d x h k = subst (λ ys. Contains ys x) (sym (take_more xs i d h)) (Contains-append_left (take i xs) (get_or xs i d ∷ []) x k)

pub front_last : {E : Type 0} (xs : List E) (i : ℕ) (d : E) → i < length xs → Contains (take (i + 1) xs) (get_or xs i d)
front_last xs i d h = subst (λ ys. Contains ys (get_or xs i d)) (sym (take_more xs i d h)) (Contains-push (take i xs) (get_or xs i d))

-- the rows of the edges so far
abbrev pub AreRows : List (SmallVec ℕ) → List (ℕ × ℕ) → Type 0
AreRows rows edges = (m n : ℕ) (row : SmallVec ℕ) → slice_get rows m ≡ Some row → Contains row.items n ↔ HasEdge edges m n

module _ (rows : List (SmallVec ℕ)) (edges : List (ℕ × ℕ)) (i : ℕ) (within : i < length edges) (exact : AreRows rows (take i edges)) (old new : SmallVec ℕ) (there : slice_get rows (get_or edges i (0, 0)).0 ≡ Some old) (pushed : new.items ≡ old.items ++ (get_or edges i (0, 0)).1 ∷ []) where
  abbrev edge : ℕ × ℕ
  edge = get_or edges i (0, 0)

  to_edge : (m n : ℕ) → m ≡ edge.0 → Contains new.items n → HasEdge (take (i + 1) edges) m n
  to_edge m n same h = elim (Contains-push_cases old.items edge.1 n (subst (λ ys. Contains ys n) pushed h)) [
    | inl k ↦ front_kept edges i (0, 0) (m, n) within ((exact m n old (rw same there)).0 k)
    | inr k ↦ rw (same, ← k) (front_last edges i (0, 0) within)
  ]

  from_edge : (m n : ℕ) → m ≡ edge.0 → HasEdge (take (i + 1) edges) m n → Contains new.items n
  from_edge m n same h = subst (λ ys. Contains ys n) (sym pushed) (elim (front_cases edges i (0, 0) (m, n) within h) [
    | inl k ↦ Contains-append_left old.items (edge.1 ∷ []) n ((exact m n old (rw same there)).1 k)
    | inr k ↦ let e : edge.1 ≡ n = ap (λ (p : ℕ × ℕ). p.1) k in rw (← e) (Contains-push old.items edge.1)
  ])

  pub rows_more : AreRows (set rows edge.0 new) (take (i + 1) edges)
  rows_more m n row h = elim (set_cases rows edge.0 m new row h) [
    | inl w ↦ rw w.1 (to_edge m n w.0, from_edge m n w.0)
    | inr w ↦ (
      (λ k. front_kept edges i (0, 0) (m, n) within ((exact m n row w.1).0 k)),
      (λ k. elim (front_cases edges i (0, 0) (m, n) within k) [
        | inl j ↦ (exact m n row w.1).1 j
        | inr j ↦ absurd (w.0 (sym (ap (λ (p : ℕ × ℕ). p.0) j)))
      ]),
    )
  ]
